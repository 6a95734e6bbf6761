-- The grammar of the language passes the check, and each nonterminal has a sentence.
use Rattle.std.proofs.Common.{T}
use Rattle.grammar.specs.Ebnf.{ref, Tree, unit, leaf, pair, left, right, nil, node, under}
use Rattle.grammar.specs.Reader.{passes}
use Rattle.grammar.specs.Language.{NT, Module, Decl, Proc, Heading, Pars, Body, Elem, Const, Set, Range, «Type», Stats, Stat, Action, If, While, Repeat, Loop, Return, For, Control, Index, Args, Expr, Sum, Term, Factor, rule}
use Rattle.grammar.specs.Sets.{firsts, nulls, follows, rank}

-- by computation
pub check : (n : NT) → T (passes firsts nulls follows rank rule n)
check Module = tt
check Decl = tt
check Proc = tt
check Heading = tt
check Pars = tt
check Body = tt
check Elem = tt
check Const = tt
check Set = tt
check Range = tt
check «Type» = tt
check Stats = tt
check Stat = tt
check Action = tt
check If = tt
check While = tt
check Repeat = tt
check Loop = tt
check Return = tt
check For = tt
check Control = tt
check Index = tt
check Args = tt
check Expr = tt
check Sum = tt
check Term = tt
check Factor = tt

least_decl : Tree rule (ref Decl)
least_decl = node (left (pair (leaf 6 tt) (nil)))

least_heading : Tree rule (ref Heading)
least_heading = node (right (unit))

least_pars : Tree rule (ref Pars)
least_pars = node (pair (leaf 41 tt) (pair (nil) (pair (leaf 57 tt) (leaf 41 tt))))

least_body : Tree rule (ref Body)
least_body = node (pair (right (unit)) (leaf 12 tt))

least_elem : Tree rule (ref Elem)
least_elem = node (left (pair (right (unit)) (leaf 42 tt)))

least_const : Tree rule (ref Const)
least_const = node (left (least_elem))

least_set : Tree rule (ref Set)
least_set = node (pair (leaf 62 tt) (pair (right (unit)) (leaf 63 tt)))

least_range : Tree rule (ref Range)
least_range = node (pair (least_elem) (right (unit)))

least_type : Tree rule (ref «Type»)
least_type = node (left (leaf 41 tt))

least_stat : Tree rule (ref Stat)
least_stat = node (right (unit))

least_action : Tree rule (ref Action)
least_action = node (pair (leaf 41 tt) (right (right (unit))))

least_return : Tree rule (ref Return)
least_return = node (pair (leaf 32 tt) (right (unit)))

least_args : Tree rule (ref Args)
least_args = node (under 58 tt (pair (right (unit)) (leaf 59 tt)))

least_factor : Tree rule (ref Factor)
least_factor = node (left (leaf 42 tt))

least_module : Tree rule (ref Module)
least_module = node (pair (leaf 23 tt) (pair (leaf 41 tt) (pair (leaf 56 tt) (pair (nil) (pair (least_body) (pair (leaf 41 tt) (leaf 53 tt)))))))

least_proc : Tree rule (ref Proc)
least_proc = node (pair (leaf 28 tt) (pair (leaf 41 tt) (pair (least_heading) (pair (leaf 56 tt) (pair (nil) (pair (least_body) (pair (leaf 41 tt) (leaf 56 tt))))))))

least_stats : Tree rule (ref Stats)
least_stats = node (pair (least_stat) (nil))

least_loop : Tree rule (ref Loop)
least_loop = node (under 21 tt (pair (least_stats) (leaf 12 tt)))

least_term : Tree rule (ref Term)
least_term = node (pair (least_factor) (nil))

least_sum : Tree rule (ref Sum)
least_sum = node (pair (right (unit)) (pair (least_term) (nil)))

least_expr : Tree rule (ref Expr)
least_expr = node (pair (least_sum) (right (unit)))

least_if : Tree rule (ref If)
least_if = node (under 17 tt (pair (least_expr) (pair (leaf 34 tt) (pair (least_stats) (pair (nil) (pair (right (unit)) (leaf 12 tt)))))))

least_while : Tree rule (ref While)
least_while = node (under 39 tt (pair (least_expr) (pair (leaf 9 tt) (pair (least_stats) (leaf 12 tt)))))

least_repeat : Tree rule (ref Repeat)
least_repeat = node (under 31 tt (pair (least_stats) (pair (leaf 37 tt) (least_expr))))

least_control : Tree rule (ref Control)
least_control = node (pair (leaf 41 tt) (pair (leaf 52 tt) (pair (least_expr) (pair (leaf 35 tt) (pair (least_expr) (right (unit)))))))

least_index : Tree rule (ref Index)
least_index = node (under 60 tt (pair (least_expr) (leaf 61 tt)))

least_for : Tree rule (ref For)
least_for = node (under 15 tt (pair (least_control) (pair (leaf 9 tt) (pair (least_stats) (leaf 12 tt)))))

-- a sentence of each
pub least : (n : NT) → Tree rule (ref n)
least Module = least_module
least Decl = least_decl
least Proc = least_proc
least Heading = least_heading
least Pars = least_pars
least Body = least_body
least Elem = least_elem
least Const = least_const
least Set = least_set
least Range = least_range
least «Type» = least_type
least Stats = least_stats
least Stat = least_stat
least Action = least_action
least If = least_if
least While = least_while
least Repeat = least_repeat
least Loop = least_loop
least Return = least_return
least For = least_for
least Control = least_control
least Index = least_index
least Args = least_args
least Expr = least_expr
least Sum = least_sum
least Term = least_term
least Factor = least_factor

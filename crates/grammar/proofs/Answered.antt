-- Every list of symbols has a right answer.
use Rattle.std.proofs.Common.{◌≡◌, ℕ, ◌<◌, ◌≤◌, List, [], ◌∷◌, ◌++◌, length, drop, sym, refl, ap, ◌∙◌, subst, arith, lit<, length-append}
use Rattle.std.proofs.lemmas.List.{drop_at}
use Rattle.grammar.specs.Ebnf.{ref}
use Rattle.grammar.specs.Reader.{Why, wrong, deep, Reads, Stops}
use Rattle.grammar.specs.Language.{NT, Module, Decl, Proc, Heading, Pars, Body, Elem, Const, Set, Range, «Type», Stats, Stat, Action, If, While, Repeat, Loop, Return, For, Control, Index, Args, Expr, Sum, Term, Factor, rule}
use Rattle.grammar.specs.Sets.{firsts, nulls, follows, rank}
use Rattle.grammar.specs.Claims.{Program, symbols, limit, Answer, tree, impossible, too_deep, Answers, SomeAnswer}
use Rattle.grammar.proofs.Theory.{sound, stopped}
use Rattle.grammar.proofs.Total as total
use Rattle.grammar.proofs.Claimed.{reader_right}
use Rattle.grammar.proofs.Table.{check, least}

-- ranks are below 5
ranks_below : (n : NT) → rank n < 5
ranks_below Module = lit< tt
ranks_below Decl = lit< tt
ranks_below Proc = lit< tt
ranks_below Heading = lit< tt
ranks_below Pars = lit< tt
ranks_below Body = lit< tt
ranks_below Elem = lit< tt
ranks_below Const = lit< tt
ranks_below Set = lit< tt
ranks_below Range = lit< tt
ranks_below «Type» = lit< tt
ranks_below Stats = lit< tt
ranks_below Stat = lit< tt
ranks_below Action = lit< tt
ranks_below If = lit< tt
ranks_below While = lit< tt
ranks_below Repeat = lit< tt
ranks_below Loop = lit< tt
ranks_below Return = lit< tt
ranks_below For = lit< tt
ranks_below Control = lit< tt
ranks_below Index = lit< tt
ranks_below Args = lit< tt
ranks_below Expr = lit< tt
ranks_below Sum = lit< tt
ranks_below Term = lit< tt
ranks_below Factor = lit< tt

-- a part at the end of a list, by its place
place_of : (u z w : List ℕ) → w ≡ u ++ z → (length u ≤ length w) × (z ≡ drop (length u) w)
place_of u z w e =
    let l = ap length e ∙ length-append u z in
    (omega arith, sym (ap (drop (length u)) e ∙ drop_at u z (length u) refl))

pub some_answer : SomeAnswer
some_answer w = go (total.total rule firsts nulls follows rank check 5 ranks_below limit limit (ref Module) tt w)
  where
    left_over : (t : Program) (y : List ℕ) → Reads rule firsts nulls limit limit (ref Module) w t y → (r : Answer) × Answers w r
    left_over t [] r = (tree t, reader_right.whole w t r)
    left_over t (a ∷ y) r =
        let s = sound rule firsts nulls r in
        let (h, e) = place_of (symbols t) (a ∷ y) w s in
        let l = ap length s ∙ length-append (symbols t) (a ∷ y) in
        (impossible (length (symbols t)), reader_right.trailing w t (length (symbols t)) (omega arith) (subst (λ z. Reads rule firsts nulls limit limit (ref Module) w t z) e r))

    refused : (φ : Why) (z : List ℕ) → Stops rule firsts nulls limit limit (ref Module) w φ z → (r : Answer) × Answers w r
    refused wrong z s =
        let i = stopped rule firsts nulls least s in
        let (h, e) = place_of i.before z w i.split in
        (impossible (length i.before), reader_right.stopped w (length i.before) h (subst (λ z. Stops rule firsts nulls limit limit (ref Module) w wrong z) e s))
    refused deep z s =
        let i = stopped rule firsts nulls least s in
        let (h, e) = place_of i.before z w i.split in
        (too_deep (length i.before), reader_right.deeper w (length i.before) h (subst (λ z. Stops rule firsts nulls limit limit (ref Module) w deep z) e s))

    go : total.Comes rule firsts nulls follows rank check 5 ranks_below limit limit (ref Module) w → (r : Answer) × Answers w r
    go (total.done t y r) = left_over t y r
    go (total.fails φ z s) = refused φ z s

-- The table: what each operation does to a board's memory. Take and Put go on to call the port.
use Rattle.std.specs.Prelude.{ℕ, ◌/◌, ◌%◌, Bool, cond, not, ℤ, pos, ◌+ℤ◌, ◌-ℤ◌, ◌*ℤ◌, neg_ℤ, Some, None, Option, int_le, int_lt, nat_lt, unsigned_abs}
use Rattle.integer.specs.Division.{divided}
use Rattle.integer.specs.Ends.{integer, within, kept}
use Rattle.integer.specs.Sets.{elements, has, union_of, intersection_of, difference_of, including, excluding, if_element}
use Rattle.instructions.specs.declared.answers.Fault.TheVariants.{Broken, Trap as Trapping}
use Rattle.instructions.specs.declared.answers.Status.TheVariants.{Ended}
use Rattle.instructions.specs.declared.answers.Trap.{Trap}
use Rattle.instructions.specs.declared.answers.Trap.TheVariants.{Range, Divisor, Index as IndexTrap, Channel as ChannelTrap, Element as ElementTrap, NoResult as NoResultTrap}
use Rattle.instructions.specs.declared.area.Area.{Area}
use Rattle.instructions.specs.declared.area.Area.TheVariants.{Globals, Variables}
use Rattle.instructions.specs.declared.operation.Operation.{Operation}
use Rattle.instructions.specs.declared.operation.Operation.TheVariants.{End, Integer, Set, Global, StoreGlobal, Local, StoreLocal, Index, GlobalElement, StoreGlobalElement, LocalElement, StoreLocalElement, Copy, Swap, Add, Subtract, Multiply, Divide, Modulo, Negate, Absolute, Odd, Equal, Unequal, Less, LessEqual, Greater, GreaterEqual, Not, Union, Difference, Intersection, Element, In, Include, Exclude, Jump, JumpIf, JumpUnless, Advance, Channel, Take, Put, Call, Enter, Return, ReturnValue, NoResult, Other}
use Rattle.instructions.specs.Moves.{Done, ok, fail, then, pull, push, operand, word, store_word, open_activation, make_variables, close_activation}
use Rattle.instructions.specs.State.{State, became, at}
use Rattle.instructions.specs.Values.{truth, signed, same, natural, quotient, remainder, odd, goes_on, following, channel_numbers}

-- takes two words: the one left first, and the newest
abbrev pub pull_two : State → Done (ℤ × ℤ)
pull_two c = then (pull c) (λ y c. then (pull c) (λ x c. ok (x, y) c))

-- leaves a value, or traps where there is none
abbrev pub answer : Trap → Option ℤ → State → Done Unit
answer t (Some x) c = push x c
answer t None c = fail (Trapping t) c

-- leaves f of the newest word, or traps
abbrev pub unary : Trap → (ℤ → Option ℤ) → State → Done Unit
unary t f c = then (pull c) (λ x c. answer t (f x) c)

-- leaves f of the two newest words, or traps
abbrev pub binary : Trap → (ℤ → ℤ → Option ℤ) → State → Done Unit
binary t f c = then (pull_two c) (λ p c. answer t (f p.0 p.1) c)

-- leaves whether a test of the newest word holds
abbrev pub test : (ℤ → Bool) → State → Done Unit
test f c = then (pull c) (λ x c. push (truth (f x)) c)

-- leaves whether a relation holds
abbrev pub relate : (ℤ → ℤ → Bool) → State → Done Unit
relate f c = then (pull_two c) (λ p c. push (truth (f p.0 p.1)) c)

-- leaves f of two sets
abbrev pub combine : (ℤ → ℤ → ℤ) → State → Done Unit
combine f c = then (pull_two c) (λ p c. push (f p.0 p.1) c)

-- traps unless the newest word, which stays, passes the test
abbrev pub check : Trap → (ℤ → Bool) → State → Done Unit
check t f c = then (operand 0 c) (λ x c. cond (f x) (ok tt c) (fail (Trapping t) c))

-- leaves a word
abbrev pub load : Area → ℕ → State → Done Unit
load a n c = then (word a Broken n c) (λ x c. push x c)

-- stores the newest word
abbrev pub keep : Area → ℕ → State → Done Unit
keep a n c = then (pull c) (λ x c. store_word a Broken n x c)

-- goes on with a number that is not negative; any other is trap 3
abbrev pub indexed : {X : Type 0} → Option ℕ → State → (ℕ → State → Done X) → Done X
indexed (Some k) c f = f k c
indexed None c f = fail (Trapping IndexTrap) c

-- takes an index and its lower bound, and leaves the one less the other, if that is from 0 to n - 1
abbrev pub index : ℕ → State → Done Unit
index n c = then (pull_two c) (λ p c. indexed (natural (p.0 -ℤ p.1)) c (λ k c. cond (nat_lt k n) (push (pos k) c) (fail (Trapping IndexTrap) c)))

-- takes k and leaves the word n + k
abbrev pub load_element : Area → ℕ → State → Done Unit
load_element a n c = then (pull c) (λ k c. indexed (natural (pos n +ℤ k)) c (λ i c. then (word a (Trapping IndexTrap) i c) (λ x c. push x c)))

-- takes k and a value, and stores the value as the word n + k
abbrev pub keep_element : Area → ℕ → State → Done Unit
keep_element a n c = then (pull_two c) (λ p c. indexed (natural (pos n +ℤ p.0)) c (λ i c. store_word a (Trapping IndexTrap) i p.1 c))

-- leaves a copy of the word that is n below the newest
abbrev pub copy : ℕ → State → Done Unit
copy n c = then (operand n c) (λ x c. push x c)

-- exchanges the two newest words
abbrev pub swap : State → Done Unit
swap c = then (pull_two c) (λ p c. then (push p.1 c) (λ _ c. push p.0 c))

-- takes a word and goes to t if it is not 0
abbrev pub jump_if : ℕ → State → Done Unit
jump_if t c = then (pull c) (λ x c. ok tt (cond (same x (pos 0)) c (at t c)))

-- takes a word and goes to t if it is 0
abbrev pub jump_unless : ℕ → State → Done Unit
jump_unless t c = then (pull c) (λ x c. ok tt (cond (same x (pos 0)) (at t c) c))

-- takes a FOR's term, limit and step; leaves whether it goes on, and its next term
abbrev pub advance : State → Done Unit
advance c = then (pull c) (λ s c. then (pull_two c) (λ p c. then (push (truth (goes_on p.0 p.1 s)) c) (λ _ c. push (following p.0 p.1 s) c)))

-- takes a channel and a value
abbrev pub put : State → Done (ℕ × ℤ)
put c =
    then (pull_two c) (λ p c.
    cond (within channel_numbers p.0)
    (cond (within integer p.1) (ok (unsigned_abs p.0, p.1) c) (fail (Trapping Range) c))
    (fail (Trapping ChannelTrap) c))

-- the channel that a Take names, which stays until the sample is there
abbrev pub take : State → Done ℕ
take c = then (operand 0 c) (λ x c. cond (within channel_numbers x) (ok (unsigned_abs x) c) (fail (Trapping ChannelTrap) c))

-- opens an activation: the operand is 4,096 times the number of arguments, and the target
abbrev pub call : ℕ → State → Done Unit
call n c = open_activation (n / 4096) (n % 4096) c

-- closes an activation with the newest word as its result
abbrev pub return_value : State → Done Unit
return_value c = then (pull c) (λ x c. then (close_activation c) (λ _ c. push x c))

-- what each operation does, with its operand, at the state that has gone on to the next index
abbrev pub obeyed : Operation → ℕ → State → Done Unit
obeyed End n c = ok tt (became Ended c)
obeyed Integer n c = push (signed n) c
obeyed Set n c = push (pos n) c
obeyed Global n c = load Globals n c
obeyed StoreGlobal n c = keep Globals n c
obeyed Local n c = load Variables n c
obeyed StoreLocal n c = keep Variables n c
obeyed Index n c = index n c
obeyed GlobalElement n c = load_element Globals n c
obeyed StoreGlobalElement n c = keep_element Globals n c
obeyed LocalElement n c = load_element Variables n c
obeyed StoreLocalElement n c = keep_element Variables n c
obeyed Copy n c = copy n c
obeyed Swap n c = swap c
obeyed Add n c = binary Range (λ x y. kept integer (x +ℤ y)) c
obeyed Subtract n c = binary Range (λ x y. kept integer (x -ℤ y)) c
obeyed Multiply n c = binary Range (λ x y. kept integer (x *ℤ y)) c
obeyed Divide n c = binary Divisor (λ x y. quotient (divided x y)) c
obeyed Modulo n c = binary Divisor (λ x y. remainder (divided x y)) c
obeyed Negate n c = unary Range (λ x. kept integer (neg_ℤ x)) c
obeyed Absolute n c = unary Range (λ x. kept integer (pos (unsigned_abs x))) c
obeyed Odd n c = test odd c
obeyed Equal n c = relate same c
obeyed Unequal n c = relate (λ x y. not (same x y)) c
obeyed Less n c = relate int_lt c
obeyed LessEqual n c = relate int_le c
obeyed Greater n c = relate (λ x y. int_lt y x) c
obeyed GreaterEqual n c = relate (λ x y. int_le y x) c
obeyed Not n c = test (λ x. same x (pos 0)) c
obeyed Union n c = combine union_of c
obeyed Difference n c = combine difference_of c
obeyed Intersection n c = combine intersection_of c
obeyed Element n c = check ElementTrap (within elements) c
obeyed In n c = binary ElementTrap (λ x s. if_element x (truth (has (unsigned_abs x) s))) c
obeyed Include n c = binary ElementTrap (λ x s. if_element x (including s x)) c
obeyed Exclude n c = binary ElementTrap (λ x s. if_element x (excluding s x)) c
obeyed Jump n c = ok tt (at n c)
obeyed JumpIf n c = jump_if n c
obeyed JumpUnless n c = jump_unless n c
obeyed Advance n c = advance c
obeyed Channel n c = check ChannelTrap (within channel_numbers) c
obeyed Take n c = fail Broken c
obeyed Put n c = fail Broken c
obeyed Call n c = call n c
obeyed Enter n c = make_variables n c
obeyed Return n c = close_activation c
obeyed ReturnValue n c = return_value c
obeyed NoResult n c = fail (Trapping NoResultTrap) c
obeyed (Other k) n c = fail Broken c

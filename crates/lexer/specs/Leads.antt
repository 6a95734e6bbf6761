-- What stands in front between two symbols.
use Rattle.std.specs.Prelude.{ℕ, Bool, cond, ◌&&◌, ◌||◌, List, [], ◌∷◌, ◌==◌}
use Rattle.lexer.specs.declared.symbol.Lead.{Lead}
use Rattle.lexer.specs.declared.symbol.Lead.TheVariants.{Done, Open, Nest, Close, Pass, Stop}
use Rattle.vocabulary.specs.Characters.{separator}

-- the two bytes that open a comment
abbrev pub opens : ℕ → ℕ → Bool
opens a b = a == 40 && b == 42

-- the two bytes that close it
abbrev pub closes : ℕ → ℕ → Bool
closes a b = a == 42 && b == 41

-- a byte that is passed over: any inside of a comment, a separator outside
abbrev pub passing : Bool → ℕ → Lead
passing inside a = cond (inside || separator a) Pass Stop

-- what the bytes begin with, inside of a comment or outside
abbrev pub lead_of : Bool → List ℕ → Lead
lead_of inside [] = Done
lead_of inside (a ∷ []) = passing inside a
lead_of inside (a ∷ (b ∷ cs)) =
    cond (opens a b) (cond inside Nest Open) (cond (inside && closes a b) Close (passing inside a))

-- so many bytes it takes at least
abbrev pub width : Lead → ℕ
width Done = 0
width Open = 2
width Nest = 2
width Close = 2
width Pass = 1
width Stop = 1

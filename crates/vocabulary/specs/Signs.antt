-- The signs, and the longest one that bytes begin with.
use Rattle.std.specs.Prelude.{ℕ, cond, ◌&&◌, List, [], ◌∷◌, Some, None, Option, ◌==◌}
use Rattle.vocabulary.specs.declared.tag.Tag.{Tag}
use Rattle.vocabulary.specs.declared.tag.Tag.TheVariants.{And, Not, Plus, Minus, Times, Equal, NotEqual, Less, AtMost, Greater, AtLeast, Becomes, Period, Range, Comma, Semicolon, Colon, OpenRound, CloseRound, OpenSquare, CloseSquare, OpenCurly, CloseCurly}

-- the tag of the sign that one byte is: + - * & ~ = # < > . , ; : ( ) [ ] { }
abbrev pub single : ℕ → Option Tag
single a =
    cond (a == 43) (Some Plus)
    (cond (a == 45) (Some Minus)
    (cond (a == 42) (Some Times)
    (cond (a == 38) (Some And)
    (cond (a == 126) (Some Not)
    (cond (a == 61) (Some Equal)
    (cond (a == 35) (Some NotEqual)
    (cond (a == 60) (Some Less)
    (cond (a == 62) (Some Greater)
    (cond (a == 46) (Some Period)
    (cond (a == 44) (Some Comma)
    (cond (a == 59) (Some Semicolon)
    (cond (a == 58) (Some Colon)
    (cond (a == 40) (Some OpenRound)
    (cond (a == 41) (Some CloseRound)
    (cond (a == 91) (Some OpenSquare)
    (cond (a == 93) (Some CloseSquare)
    (cond (a == 123) (Some OpenCurly)
    (cond (a == 125) (Some CloseCurly) None))))))))))))))))))

-- the tag of the sign that two bytes are: <> <= >= := ..
abbrev pub double : ℕ → ℕ → Option Tag
double a b =
    cond (a == 60 && b == 62) (Some NotEqual)
    (cond (a == 60 && b == 61) (Some AtMost)
    (cond (a == 62 && b == 61) (Some AtLeast)
    (cond (a == 58 && b == 61) (Some Becomes)
    (cond (a == 46 && b == 46) (Some Range) None))))

-- the tag of the sign that is written so
abbrev pub sign_tag : List ℕ → Option Tag
sign_tag [] = None
sign_tag (a ∷ []) = single a
sign_tag (a ∷ (b ∷ [])) = double a b
sign_tag (a ∷ (b ∷ (c ∷ cs))) = None

-- a sign of two bytes, else the other
abbrev pub wide : Option Tag → Option (Tag × ℕ) → Option (Tag × ℕ)
wide (Some tag) other = Some (tag, 2)
wide None other = other

-- a sign of one byte
abbrev pub narrow : Option Tag → Option (Tag × ℕ)
narrow (Some tag) = Some (tag, 1)
narrow None = None

-- the longest sign in front: its tag and its length
abbrev pub sign_of : List ℕ → Option (Tag × ℕ)
sign_of [] = None
sign_of (a ∷ []) = narrow (single a)
sign_of (a ∷ (b ∷ cs)) = wide (double a b) (narrow (single a))

-- Worked examples: programs read on a port, with what each comes to. The text above each is its statements, from whose start
-- places are counted; its variables are the module's words in the order in which the text names them.
use Rattle.std.specs.Prelude.{◌≡◌, ℕ, cond, List, [], ◌∷◌, map, ℤ, pos, ◌-ℤ◌, neg_ℤ, Some, None, Option, int_le}
use Rattle.std.specs.List.{AllByRecursion}
use Rattle.integer.specs.Sets.{span, union_of}
use Rattle.ports.specs.Events.{Event, took, set_to}
use Rattle.ports.specs.Layers.{blank}
use Rattle.semantics.specs.Program.{BasicType, INTEGER, BOOLEAN, BITSET, global, local, negate, subtract, multiply, divide, modulo, equal, greater, Expr, constant, variable, unary, binary, member, both, call, none, more, whole, item, increase, decrease, Stat, skip, assign, update, take, put, perform, seq, choose, while, loop, for, exit, give, Procedure, Program}
use Rattle.semantics.specs.State.{State, Outcome, ended, trap, waits, Res, done, stopped, out, Flow, events, rounds, activations}
use Rattle.semantics.specs.Meaning.{reading}
use Rattle.ports.specs.Samples.{Sample, joined_all}

-- a word as a board shows it: a set with the element 15 less 65,536
abbrev pub shown_word : ℤ → ℤ
shown_word z = cond (int_le (pos 32768) z) (z -ℤ pos 65536) z

-- what a reading has come to, to be compared
pub record Reached : Type 0 where
  -- none where the fuel is out
  pub outcome : Option Outcome
  pub globals : List ℤ
  pub shown : List Event
  pub rounds_begun : ℕ
  pub activations_opened : ℕ
  -- the values last set on channels 0 to 3
  pub last_set : List ℤ

abbrev pub reached_in : Option Outcome → State → Reached
reached_in o σ = record {
  outcome = o;
  globals = map shown_word σ.globals;
  shown = events σ.trace;
  rounds_begun = rounds σ.trace;
  activations_opened = activations σ.trace;
  last_set = map (λ c. (σ.port c).last) (0 ∷ 1 ∷ 2 ∷ 3 ∷ []);
}

abbrev pub reached : Res Flow → Reached
reached (done f σ) = reached_in None σ
reached (stopped o σ) = reached_in (Some o) σ
reached (out σ) = reached_in None σ

-- an example: a program, the samples fed to a port that begins empty with 0 last set, fuel, and what is reached
pub record Example : Type 0 where
  pub program : Program
  pub samples : List Sample
  pub fuel : ℕ
  pub reaches : Reached

-- how parts of the programs are written here
abbrev pub number : ℕ → Expr
number n = constant INTEGER (pos n)

abbrev pub word : ℕ → Expr
word w = variable (global w)

abbrev pub sets : ℕ → Expr → Stat
sets w e = assign (whole (global w)) e

abbrev pub alone : List BasicType → Stat → Program
alone ws s = record { words = ws; procedures = []; body = s }

-- an example in which nothing is fed and no channel is set
abbrev pub quiet : Program → (fuel : ℕ) → Option Outcome → (globals : List ℤ) → (rounds activations : ℕ) → Example
quiet P n o ws r a = record {
  program = P;
  samples = [];
  fuel = n;
  reaches = record { outcome = o; globals = ws; shown = []; rounds_begun = r; activations_opened = a; last_set = pos 0 ∷ pos 0 ∷ pos 0 ∷ pos 0 ∷ [] };
}

-- PROCEDURE fact(n: INTEGER): INTEGER; BEGIN IF n = 0 THEN RETURN 1 ELSE RETURN fact(n - 1) * n END END fact
abbrev pub fact : Procedure
fact = record {
  parameters = 1;
  words = INTEGER ∷ [];
  result = Some INTEGER;
  body = choose (binary 48 equal (variable (local 0)) (number 0)) (give (number 1)) (give (binary 90 multiply (call 78 0 (more (binary 85 subtract (variable (local 0)) (number 1)) none)) (variable (local 0))));
  end = 98;
}

-- PROCEDURE clear; BEGIN i := 0 END clear
abbrev pub clear : Procedure
clear = record { parameters = 0; words = []; result = None; body = sets 0 (number 0); end = 30 }

-- PROCEDURE void(): INTEGER; BEGIN END void
abbrev pub void : Procedure
void = record { parameters = 0; words = []; result = Some INTEGER; body = skip; end = 33 }

-- PROCEDURE deep; BEGIN deep END deep
abbrev pub deep : Procedure
deep = record { parameters = 0; words = []; result = None; body = perform 22 0 none; end = 27 }

-- Take(2, x); Put(3, x DIV 8)
abbrev pub relay : Program
relay = alone (INTEGER ∷ []) (seq (take 0 (number 2) (whole (global 0))) (put 12 (number 3) (binary 21 divide (word 0) (number 8))))

abbrev pub examples : List Example
examples =
    -- x := -3; y := x DIV 8; z := x MOD 8
    quiet (alone (INTEGER ∷ INTEGER ∷ INTEGER ∷ []) (seq (sets 0 (unary 5 negate (number 3))) (seq (sets 1 (binary 16 divide (word 0) (number 8))) (sets 2 (binary 30 modulo (word 0) (number 8))))))
    1 (Some ended) (neg_ℤ (pos 3) ∷ neg_ℤ (pos 1) ∷ pos 5 ∷ []) 0 0
    -- x := 7; x := -3 DIV 8
    ∷ quiet (alone (INTEGER ∷ []) (seq (sets 0 (number 7)) (sets 0 (unary 13 negate (binary 16 divide (number 3) (number 8))))))
    1 (Some ended) (pos 0 ∷ []) 0 0
    -- y := 0; x := 8 DIV y
    ∷ quiet (alone (INTEGER ∷ INTEGER ∷ []) (seq (sets 0 (number 0)) (sets 1 (binary 15 divide (number 8) (word 0)))))
    1 (Some (trap 2 15)) (pos 0 ∷ pos 0 ∷ []) 0 0
    -- y := -2; x := 8 DIV y
    ∷ quiet (alone (INTEGER ∷ INTEGER ∷ []) (seq (sets 0 (unary 5 negate (number 2))) (sets 1 (binary 16 divide (number 8) (word 0)))))
    1 (Some (trap 2 16)) (neg_ℤ (pos 2) ∷ pos 0 ∷ []) 0 0
    -- FOR i := 32766 TO 32767 DO END
    ∷ quiet (alone (INTEGER ∷ []) (for (global 0) (number 32766) (number 32767) (pos 1) skip))
    1 (Some ended) (pos 32767 ∷ []) 2 0
    -- i := 7; FOR i := 3 TO 1 DO END
    ∷ quiet (alone (INTEGER ∷ []) (seq (sets 0 (number 7)) (for (global 0) (number 3) (number 1) (pos 1) skip)))
    1 (Some ended) (pos 7 ∷ []) 0 0
    -- FOR i := 5 TO 0 BY -2 DO Put(1, i) END
    ∷ record {
      program = alone (INTEGER ∷ []) (for (global 0) (number 5) (number 0) (neg_ℤ (pos 2)) (put 25 (number 1) (word 0)));
      samples = [];
      fuel = 1;
      reaches = record { outcome = Some ended; globals = pos 1 ∷ []; shown = set_to 1 (pos 5) ∷ set_to 1 (pos 3) ∷ set_to 1 (pos 1) ∷ []; rounds_begun = 3; activations_opened = 0; last_set = pos 0 ∷ pos 1 ∷ pos 0 ∷ pos 0 ∷ [] };
    }
    -- b := TRUE; b := FALSE AND (1 DIV 0 = 1)
    ∷ quiet (alone (BOOLEAN ∷ []) (seq (sets 0 (constant BOOLEAN (pos 1))) (sets 0 (both (constant BOOLEAN (pos 0)) (binary 35 equal (binary 29 divide (number 1) (number 0)) (number 1))))))
    1 (Some ended) (pos 0 ∷ []) 0 0
    -- s := {1, 3..5}; t := {15}
    ∷ quiet (alone (BITSET ∷ BITSET ∷ []) (seq (sets 0 (constant BITSET (union_of (span (pos 1) (pos 1)) (span (pos 3) (pos 5))))) (sets 1 (constant BITSET (span (pos 15) (pos 15))))))
    1 (Some ended) (pos 58 ∷ neg_ℤ (pos 32768) ∷ []) 0 0
    -- nothing is fed
    ∷ quiet relay 1 (Some (waits 2 0)) (pos 0 ∷ []) 0 0
    -- -3 is fed to channel 2
    ∷ record {
      program = relay;
      samples = record { channel = 2; value = neg_ℤ (pos 3) } ∷ [];
      fuel = 1;
      reaches = record { outcome = Some ended; globals = neg_ℤ (pos 3) ∷ []; shown = took 2 (neg_ℤ (pos 3)) ∷ set_to 3 (neg_ℤ (pos 1)) ∷ []; rounds_begun = 0; activations_opened = 0; last_set = pos 0 ∷ pos 0 ∷ pos 0 ∷ neg_ℤ (pos 1) ∷ [] };
    }
    -- x := 32767; INC(x)
    ∷ quiet (alone (INTEGER ∷ []) (seq (sets 0 (number 32767)) (update 12 increase (whole (global 0)) (number 1))))
    1 (Some (trap 1 12)) (pos 32767 ∷ []) 0 0
    -- a[3] := 1 DIV 0, with VAR a: ARRAY [1..2] OF INTEGER
    ∷ quiet (alone (INTEGER ∷ INTEGER ∷ []) (assign (item 1 (record { base = global 0; low = pos 1; size = 2 }) (number 3)) (binary 10 divide (number 1) (number 0))))
    1 (Some (trap 3 1)) (pos 0 ∷ pos 0 ∷ []) 0 0
    -- Put(16, 1 DIV 0)
    ∷ quiet (alone [] (put 0 (number 16) (binary 10 divide (number 1) (number 0))))
    1 (Some (trap 4 0)) [] 0 0
    -- b := 16 IN {}
    ∷ quiet (alone (BOOLEAN ∷ []) (sets 0 (member 8 (number 16) (constant BITSET (pos 0)))))
    1 (Some (trap 5 8)) (pos 0 ∷ []) 0 0
    -- deep
    ∷ quiet (record { words = []; procedures = deep ∷ []; body = perform 0 0 none })
    34 (Some (trap 6 22)) [] 0 32
    -- x := void()
    ∷ quiet (record { words = INTEGER ∷ []; procedures = void ∷ []; body = sets 0 (call 5 0 none) })
    2 (Some (trap 7 33)) (pos 0 ∷ []) 0 1
    -- x := fact(5)
    ∷ quiet (record { words = INTEGER ∷ []; procedures = fact ∷ []; body = sets 0 (call 5 0 (more (number 5) none)) })
    7 (Some ended) (pos 120 ∷ []) 0 6
    -- FOR i := 1 TO 2 DO clear; Put(1, i) END
    ∷ record {
      program = record { words = INTEGER ∷ []; procedures = clear ∷ []; body = for (global 0) (number 1) (number 2) (pos 1) (seq (perform 19 0 none) (put 26 (number 1) (word 0))) };
      samples = [];
      fuel = 2;
      reaches = record { outcome = Some ended; globals = pos 0 ∷ []; shown = set_to 1 (pos 0) ∷ set_to 1 (pos 0) ∷ []; rounds_begun = 2; activations_opened = 2; last_set = pos 0 ∷ pos 0 ∷ pos 0 ∷ pos 0 ∷ [] };
    }
    -- x := 3; WHILE x > 0 DO DEC(x) END
    ∷ quiet (alone (INTEGER ∷ []) (seq (sets 0 (number 3)) (while (binary 16 greater (word 0) (number 0)) (update 23 decrease (whole (global 0)) (number 1)))))
    4 (Some ended) (pos 0 ∷ []) 3 0
    -- LOOP INC(x); IF x = 2 THEN EXIT END END
    ∷ quiet (alone (INTEGER ∷ []) (loop (seq (update 5 increase (whole (global 0)) (number 1)) (choose (binary 18 equal (word 0) (number 2)) exit skip))))
    2 (Some ended) (pos 2 ∷ []) 2 0
    -- LOOP END
    ∷ quiet (alone [] (loop skip)) 3 None [] 3 0
    ∷ []

-- the program comes to what its example says
abbrev pub Holds : Example → Type 0
Holds x = reached (reading x.program (joined_all x.samples (blank 16)) x.fuel) ≡ x.reaches

-- and so for each example
abbrev pub ExamplesHold : Type 0
ExamplesHold = AllByRecursion Holds examples

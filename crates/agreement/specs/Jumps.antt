-- Which jumps of a program's code go back: those for a loop's next round, and no others.
use Rattle.std.specs.Prelude.{◌≡◌, ℕ, suc, ◌<◌, ◌≤◌, ◌⊎◌, List, [], ◌∷◌, ◌++◌, length, slice_index_or}
use Rattle.instructions.specs.Steps.{none}
use Rattle.instructions.specs.declared.instruction.Instruction.{Instruction}
use Rattle.instructions.specs.declared.operation.Operation.TheVariants as op
use Rattle.semantics.specs.Program.{Stat, skip, assign, update, take, put, perform, seq, choose, while, repeat, loop, for, exit, return, give, halt, Procedure, Program}
use Rattle.semantics.specs.WellFormed.{WellFormed}
use Rattle.agreement.specs.Generator.{further, expr_end, stat_end, procedure_end, module_start, first, generate}

-- the indexes at which the loops of a statement that begins at p jump for their next round
abbrev pub next_rounds : Stat → ℕ → List ℕ
next_rounds skip p = []
next_rounds (assign t e) p = []
next_rounds (update pl o t e) p = []
next_rounds (take pl e t) p = []
next_rounds (put pl e k) p = []
next_rounds (perform pl g es) p = []
next_rounds (seq s t) p = next_rounds s p ++ next_rounds t (stat_end s p)
next_rounds (choose e s t) p = next_rounds s (suc (expr_end e p)) ++ next_rounds t (suc (stat_end s (suc (expr_end e p))))
next_rounds (while e s) p = stat_end s (suc (expr_end e p)) ∷ next_rounds s (suc (expr_end e p))
next_rounds (repeat s e) p = expr_end e (stat_end s p) ∷ next_rounds s p
next_rounds (loop s) p = stat_end s p ∷ next_rounds s p
next_rounds (for v a b c s) p = further 5 (stat_end s (further 7 (expr_end b (suc (expr_end a p))))) ∷ next_rounds s (further 7 (expr_end b (suc (expr_end a p))))
next_rounds exit p = []
next_rounds return p = []
next_rounds (give e) p = []
next_rounds halt p = []

-- those of the procedures, the first of which begins at p
abbrev pub procedures_rounds : List Procedure → ℕ → List ℕ
procedures_rounds [] p = []
procedures_rounds (f ∷ fs) p = next_rounds f.body (suc p) ++ procedures_rounds fs (procedure_end f p)

-- those of a program
abbrev pub program_rounds : Program → List ℕ
program_rounds P = procedures_rounds P.procedures first ++ next_rounds P.body (suc (module_start P))

-- an instruction jumps
abbrev pub Jumps : Instruction → Type 0
Jumps i = (i.operation ≡ op.Jump) ⊎ ((i.operation ≡ op.JumpIf) ⊎ (i.operation ≡ op.JumpUnless))

-- n is in the list
abbrev pub Among : ℕ → List ℕ → Type 0
Among n [] = ⊥
Among n (x ∷ xs) = (n ≡ x) ⊎ Among n xs

-- a jump to the same or a lower index is one for a loop's next round
abbrev pub JumpsBackAreRounds : Type 0
JumpsBackAreRounds =
    (P : Program) → WellFormed P → (i : ℕ) → i < length (generate P) → Jumps (slice_index_or (generate P) i none) → (slice_index_or (generate P) i none).operand ≤ i
    → Among i (program_rounds P)

-- Waiting activations, each with its words below those of the next.
use Rattle.std.specs.Prelude.{ℕ, zero, suc, ◌+◌, ◌*◌, ◌≤◌, List, slice_index_or}
use Rattle.memory.specs.declared.activation.Activation.{Activation}

-- no activation
abbrev pub blank : Activation
blank = record { resume = 0; base = 0; variables = 0; operands = 0 }

-- the first n activations have their words in order, and all end at or below the given index
abbrev pub Nested : List Activation → ℕ → ℕ → Type 0
Nested cs zero above = Unit {0}
Nested cs (suc n) above =
    ((slice_index_or cs n blank).base + ((slice_index_or cs n blank).variables + (slice_index_or cs n blank).operands) ≤ above)
    × ((slice_index_or cs n blank).variables + (slice_index_or cs n blank).operands ≤ 256)
    × ((slice_index_or cs n blank).base ≤ n * 256)
    × Nested cs n (slice_index_or cs n blank).base

-- The list that a stack stands for.
use Rattle.std.specs.Prelude.{◌≡◌, ℕ, ◌+◌, List, [], ◌∷◌, ◌++◌, length, take, slice_index_or, slice_set}
use Rattle.stack.specs.declared.pile.Stack.{Stack}

-- the items, the oldest first
abbrev pub items : {X : Type 0} → Stack X → List X
items s = take s.len s.slots.now

-- how many items there is room for
abbrev pub room : {X : Type 0} → Stack X → ℕ
room s = length s.slots.now

-- after is before with x on top: in the slot above the old items, and no other slot is written
pub record Pushed {X : Type 0} (x : X) (before after : Stack X) : Type 0 where
  pub items_are : items after ≡ items before ++ x ∷ []
  pub len_is : after.len ≡ before.len + 1
  pub slots_are : after.slots.now ≡ slice_set before.slots.now before.len x

-- after is before without its newest item, which is x: no slot is written
pub record Popped {X : Type 0} (x : X) (before after : Stack X) : Type 0 where
  pub items_were : items before ≡ items after ++ x ∷ []
  pub len_was : before.len ≡ after.len + 1
  pub item_is : x ≡ slice_index_or before.slots.now after.len x
  pub slots_are : after.slots.now ≡ before.slots.now

-- nothing is altered
pub record Kept {X : Type 0} (before after : Stack X) : Type 0 where
  pub len_is : after.len ≡ before.len
  pub slots_are : after.slots.now ≡ before.slots.now

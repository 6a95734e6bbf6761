use Rattle.std.proofs.Common.{◌≡◌, ℕ, ◌+◌, ◌-◌, ◌<◌, ◌≤◌, min, ◌⊎◌, length, set, length-set, refl, ap, ◌∙◌, inl, inr}
use Rattle.syntax.specs.declared.step.Descent.{Descent}
use Rattle.syntax.specs.declared.tree.TreeRecord.{TreeRecord}
use Rattle.syntax.specs.Steps.{Pushed}
use Rattle.syntax.proofs.Lays.{added}
use Rattle.syntax.proofs.step.Descent.push.Goals as goal
use Rattle.syntax.proofs.step.Descent.push.Goals.{then-self, else-self}

-- a record written if it fits in, and one more in use
pushed : (r : TreeRecord) (p q : Descent) (u : ℕ) → q.source ≡ p.source → q.symbols ≡ p.symbols → q.tree.ghost_name ≡ p.tree.ghost_name → q.here ≡ p.here → u ≡ min (q.here.used + 1) 18446744073709551615 →
    length q.tree.now ≡ length p.tree.now → ((p.here.used < length p.tree.now) × (q.tree.now ≡ set p.tree.now p.here.used r)) ⊎ (length p.tree.now ≤ p.here.used) →
    Pushed r (u - 1) p (record { source = q.source; symbols = q.symbols; tree = q.tree; here = record { at = q.here.at; used = u } })
pushed r p q u s rs g h m l w =
    record {
      keeps = record { source = ap (λ x. x.now) s; symbols = ap (λ x. x.now) rs; lent = g; long = l };
      added = added r p.here (record { at = q.here.at; used = u }) p.tree.now q.tree.now (ap (λ x. x.at) h) (m ∙ ap (λ x. min (x.used + 1) 18446744073709551615) h) l w;
      is = refl;
    }

pub returns : goal.returns
returns c = elim c.if-self.branch [
  | then-self w ↦ pushed _ _ _ _ (ap (λ x. x.source) w.self-is) (ap (λ x. x.symbols) w.self-is) (ap (λ x. x.tree.ghost_name) w.self-is) (ap (λ x. x.here) w.self-is) c.saturating_add-self.ensures (ap (λ x. length x.tree.now) w.self-is ∙ simp length-set) (inl (w.if-self.true, ap (λ x. x.tree.now) w.self-is))
  | else-self w ↦ pushed _ _ _ _ (ap (λ x. x.source) w.self-is) (ap (λ x. x.symbols) w.self-is) (ap (λ x. x.tree.ghost_name) w.self-is) (ap (λ x. x.here) w.self-is) c.saturating_add-self.ensures (ap (λ x. length x.tree.now) w.self-is) (inr w.if-self.false)
]

-- How a board's state matches the meaning's, and what stays good as both go on.
use Rattle.std.proofs.Common.{◌≡◌, ℕ, suc, ◌+◌, ◌<◌, ◌≤◌, Bool, true, false, cond, eqb, ltb, List, [], ◌∷◌, ◌++◌, length, take, drop, replicate, ℤ, pos, Some, refl, ap, subst, arith, length-append}
use mathlib.Core.Option.{some}
use lib.ListN.{get_elem?}
use Rattle.std.proofs.lemmas.List.{get_or_append_left, set-append_left}
use Rattle.std.specs.List.{AllByRecursion}
use Rattle.integer.specs.Ends.{integer, Within}
use Rattle.ports.specs.Calls.{changed, oldest, newer}
use Rattle.ports.specs.Channels.{Channel, Meaning}
use Rattle.ports.specs.Events.{Event, took, set_to}
use Rattle.ports.specs.Law.{Integer}
use Rattle.instructions.specs.State.{Caller}
use Rattle.instructions.specs.Steps.{step}
use Rattle.instructions.specs.Traps.{trap_number}
use Rattle.instructions.specs.declared.answers.Outcome.TheVariants as answer
use Rattle.instructions.specs.declared.answers.Trap.{Trap}
use Rattle.instructions.specs.declared.instruction.Instruction.{Instruction}
use Rattle.semantics.specs.Program.{BasicType, INTEGER, BOOLEAN, BITSET, Variable, global, local, Array, Program}
use Rattle.semantics.specs.Values.{Value}
use Rattle.semantics.specs.State.{State, round, trap, stopped, read, store as stored, behind, tick, happened}
use Rattle.semantics.specs.Laws.{Valued}
use Rattle.semantics.specs.WellFormed.{Block, BlockKind, in_module, in_procedure, in_function, Holds, ArrayOf, words_of, place_of}
use Rattle.agreement.specs.Claims.{spare}
use Rattle.agreement.specs.Generator.{load, store, load_element, store_element, constant_code}
use Rattle.agreement.proofs.Traced.{Traced, Mark, turned, passed, Goes, here, go, Thin, th_event, th_round, th_turn, th_lose, After, stops}
use Rattle.agreement.proofs.Executing.{At, memory, traced, next, next_storing, Fails, traps, obeys_integer, obeys_set, obeys_global, obeys_local, obeys_store_global, obeys_store_local, obeys_global_element, obeys_local_element, obeys_store_global_element, obeys_store_local_element}
use Rattle.semantics.proofs.Wording.{valued_at, valued_set, element_typed}
use Rattle.agreement.proofs.Words.{valued_length, word_there}
use Rattle.agreement.proofs.Encoding.{signed_encoded, signed_truth, signed_set}

-- the samples that wait are INTEGERs
abbrev pub Samples : Meaning → Type 0
Samples m = (c : ℕ) → AllByRecursion Integer (m c).waiting

-- a board in the middle of a block: its words are those of the meaning, then hidden ones
abbrev pub mk : Program → List Instruction → List Caller → List ℤ → ℕ → List ℤ → State → List Mark → Traced
mk P c cs hid p ops σ t = traced c (memory (σ.globals ++ spare P) (σ.locals ++ hid) ops cs p) σ.port t

-- what holds of the meaning's state in a block, with a credit of turns
pub record Good (P : Program) (B : Block) (below : List (List ℤ)) (k : ℕ) (t : List Mark) (σ : State) : Type 0 where
  pub thin : Thin k t σ.trace
  pub globals : Valued P.words σ.globals
  pub locals : Valued B.words σ.locals
  pub callers : σ.callers ≡ below
  pub samples : Samples σ.port

-- what a block that returns asks of its caller
abbrev pub Inside : BlockKind → List Caller → Type 0
Inside in_module cs = Unit {0}
Inside in_procedure [] = ⊥
Inside in_procedure (k ∷ cs) = Unit {0}
Inside (in_function τ) [] = ⊥
Inside (in_function τ) (k ∷ cs) = length k.words.variables + length k.words.operands < 256

-- the activations that wait for a block
pub record Ground (P : Program) (B : Block) (below : List (List ℤ)) (cs : List Caller) : Type 0 where
  pub deep : length below ≡ length cs
  pub inside : Inside B.kind cs

-- the credit of a block in which k is left behind a RETURN
abbrev pub Owes : BlockKind → ℕ → ℕ → Type 0
Owes in_module κ k = Unit {0}
Owes in_procedure κ k = κ ≡ suc k
Owes (in_function τ) κ k = κ ≡ suc k

pub owes_more : (b : BlockKind) (κ k : ℕ) → Owes b κ k → Owes b (suc κ) (suc k)
owes_more in_module κ k o = tt
owes_more in_procedure κ k o = ap suc o
owes_more (in_function τ) κ k o = ap suc o

module _ {P : Program} {B : Block} {below : List (List ℤ)} {k : ℕ} {t : List Mark} {σ : State} where
  pub g_round : Good P B below k t σ → Good P B below (suc k) t (tick round σ)
  g_round g = record { thin = th_round g.thin; globals = g.globals; locals = g.locals; callers = g.callers; samples = g.samples }

  pub g_turn : Good P B below (suc k) t σ → Good P B below k (turned ∷ t) σ
  g_turn g = record { thin = th_turn g.thin; globals = g.globals; locals = g.locals; callers = g.callers; samples = g.samples }

  pub g_lose : Good P B below (suc k) t σ → Good P B below k t σ
  g_lose g = record { thin = th_lose g.thin; globals = g.globals; locals = g.locals; callers = g.callers; samples = g.samples }

  pub g_store : {τ : BasicType} (v : Variable) (x : ℤ) → Holds P B v τ → Value τ x → Good P B below k t σ → Good P B below k t (stored v x σ)
  g_store {τ} (global w) x h e g = record { thin = g.thin; globals = valued_set P.words σ.globals w τ x h e g.globals; locals = g.locals; callers = g.callers; samples = g.samples }
  g_store {τ} (local w) x h e g = record { thin = g.thin; globals = g.globals; locals = valued_set B.words σ.locals w τ x h e g.locals; callers = g.callers; samples = g.samples }

  pub read_value : {τ : BasicType} (v : Variable) → Holds P B v τ → Good P B below k t σ → Value τ (read v σ)
  read_value {τ} (global w) h g = valued_at P.words σ.globals w τ h g.globals
  read_value {τ} (local w) h g = valued_at B.words σ.locals w τ h g.locals

  pub locals_length : Good P B below k t σ → length σ.locals ≡ length B.words
  locals_length g = valued_length B.words σ.locals g.locals

  -- room for a word more
  pub room : (hid ops : List ℤ) → Good P B below k t σ → length B.words + length hid + length ops < 256 → length (σ.locals ++ hid) + length ops < 256
  room hid ops g h = let e = locals_length g in let l = length-append σ.locals hid in omega arith

-- an element's word
pub element_holds : (P : Program) (B : Block) (a : Array) (τ : BasicType) (k : ℕ) → ArrayOf P B a τ → k < a.size → Holds P B (behind a.base k) τ
element_holds P B a τ k h l = by_base a.base h.1
  where
    by_base : (v : Variable) → take a.size (drop (place_of P B v) (words_of P B v)) ≡ replicate a.size τ → Holds P B (behind v k) τ
    by_base (global w) e = element_typed P.words w a.size k τ e l
    by_base (local w) e = element_typed B.words w a.size k τ e l

-- loading and storing on the board
module _ {P : Program} {B : Block} {below : List (List ℤ)} {k : ℕ} {t : List Mark} {σ : State} {τ : BasicType} (g : Good P B below k t σ) where
  global_there : (w : ℕ) → get_elem? P.words w ≡ some τ → w < length σ.globals
  global_there w h = word_there P.words σ.globals w τ g.globals h

  declared : (w : ℕ) → get_elem? P.words w ≡ some τ → w < length P.words
  declared w h = let l = global_there w h in let e = valued_length P.words σ.globals g.globals in omega arith

  local_there : (w : ℕ) → get_elem? B.words w ≡ some τ → w < length σ.locals
  local_there w h = word_there B.words σ.locals w τ g.locals h

  local_within : (hid : List ℤ) (w : ℕ) → get_elem? B.words w ≡ some τ → w < length (σ.locals ++ hid)
  local_within hid w h = let l = local_there w h in let e = length-append σ.locals hid in omega arith

  global_within : length P.words ≤ 1024 → (w : ℕ) → get_elem? P.words w ≡ some τ → w < 1024
  global_within few w h = let l = global_there w h in let e = valued_length P.words σ.globals g.globals in omega arith

module _ {P : Program} {B : Block} {below : List (List ℤ)} {k : ℕ} {t : List Mark} {σ : State} {c : List Instruction} {cs : List Caller} {ops : List ℤ} {p : ℕ}
    (few : length P.words ≤ 1024) (hid : List ℤ) (g : Good P B below k t σ) where
  module _ {τ : BasicType} where
    pub loads : (v : Variable) → Holds P B v τ → At c p (load v) → length B.words + length hid + length ops < 256
        → Goes (length P.words) (mk P c cs hid p ops σ t) (mk P c cs hid (suc p) (read v σ ∷ ops) σ t)
    loads (global w) h a r = subst (λ x. Goes (length P.words) (mk P c cs hid p ops σ t) (mk P c cs hid (suc p) (x ∷ ops) σ t)) (get_or_append_left σ.globals (spare P) (pos 0) w (global_there g w h)) (next a (obeys_global (room hid ops g r) (global_within g few w h)))
    loads (local w) h a r = subst (λ x. Goes (length P.words) (mk P c cs hid p ops σ t) (mk P c cs hid (suc p) (x ∷ ops) σ t)) (get_or_append_left σ.locals hid (pos 0) w (local_there g w h)) (next a (obeys_local (room hid ops g r) (local_within g hid w h)))

    pub loads_element : (v : Variable) (j : ℕ) → Holds P B (behind v j) τ → At c p (load_element v) → length B.words + length hid + length ops < 256
        → Goes (length P.words) (mk P c cs hid p (pos j ∷ ops) σ t) (mk P c cs hid (suc p) (read (behind v j) σ ∷ ops) σ t)
    loads_element (global w) j h a r = subst (λ x. Goes (length P.words) (mk P c cs hid p (pos j ∷ ops) σ t) (mk P c cs hid (suc p) (x ∷ ops) σ t)) (get_or_append_left σ.globals (spare P) (pos 0) (w + j) (global_there g (w + j) h)) (next a (obeys_global_element (room hid ops g r) (global_within g few (w + j) h)))
    loads_element (local w) j h a r = subst (λ x. Goes (length P.words) (mk P c cs hid p (pos j ∷ ops) σ t) (mk P c cs hid (suc p) (x ∷ ops) σ t)) (get_or_append_left σ.locals hid (pos 0) (w + j) (local_there g (w + j) h)) (next a (obeys_local_element (room hid ops g r) (local_within g hid (w + j) h)))

    pub stores : (v : Variable) (x : ℤ) → Holds P B v τ → At c p (store v) → Goes (length P.words) (mk P c cs hid p (x ∷ ops) σ t) (mk P c cs hid (suc p) ops (stored v x σ) t)
    stores (global w) x h a = subst (λ gs. Goes (length P.words) (mk P c cs hid p (x ∷ ops) σ t) (traced c (memory gs (σ.locals ++ hid) ops cs (suc p)) σ.port t)) (set-append_left σ.globals (spare P) w x (global_there g w h)) (next_storing (σ.globals ++ spare P) w x (declared g w h) a (obeys_store_global (global_within g few w h)))
    stores (local w) x h a = subst (λ vs. Goes (length P.words) (mk P c cs hid p (x ∷ ops) σ t) (traced c (memory (σ.globals ++ spare P) vs ops cs (suc p)) σ.port t)) (set-append_left σ.locals hid w x (local_there g w h)) (next a (obeys_store_local (local_within g hid w h)))

    pub stores_element : (v : Variable) (j : ℕ) (x : ℤ) → Holds P B (behind v j) τ → At c p (store_element v) → Goes (length P.words) (mk P c cs hid p (x ∷ pos j ∷ ops) σ t) (mk P c cs hid (suc p) ops (stored (behind v j) x σ) t)
    stores_element (global w) j x h a = subst (λ gs. Goes (length P.words) (mk P c cs hid p (x ∷ pos j ∷ ops) σ t) (traced c (memory gs (σ.locals ++ hid) ops cs (suc p)) σ.port t)) (set-append_left σ.globals (spare P) (w + j) x (global_there g (w + j) h)) (next_storing (σ.globals ++ spare P) (w + j) x (declared g (w + j) h) a (obeys_store_global_element (global_within g few (w + j) h)))
    stores_element (local w) j x h a = subst (λ vs. Goes (length P.words) (mk P c cs hid p (x ∷ pos j ∷ ops) σ t) (traced c (memory (σ.globals ++ spare P) vs ops cs (suc p)) σ.port t)) (set-append_left σ.locals hid (w + j) x (local_there g (w + j) h)) (next a (obeys_store_local_element (local_within g hid (w + j) h)))

  pub loads_constant : (υ : BasicType) (z : ℤ) → Value υ z → At c p (constant_code υ z) → length B.words + length hid + length ops < 256
      → Goes (length P.words) (mk P c cs hid p ops σ t) (mk P c cs hid (suc p) (z ∷ ops) σ t)
  loads_constant INTEGER z h a r = subst (λ x. Goes (length P.words) (mk P c cs hid p ops σ t) (mk P c cs hid (suc p) (x ∷ ops) σ t)) (signed_encoded z h) (next a (obeys_integer (room hid ops g r)))
  loads_constant BOOLEAN z h a r = subst (λ x. Goes (length P.words) (mk P c cs hid p ops σ t) (mk P c cs hid (suc p) (x ∷ ops) σ t)) (signed_truth z h) (next a (obeys_integer (room hid ops g r)))
  loads_constant BITSET z h a r = subst (λ x. Goes (length P.words) (mk P c cs hid p ops σ t) (mk P c cs hid (suc p) (x ∷ ops) σ t)) (signed_set z h) (next a (obeys_set (room hid ops g r)))

-- a trap is the meaning's
pub trapped : {A X : Type 0} {P : Program} {B : Block} {below : List (List ℤ)} {cs : List Caller} {n k : ℕ} {t : List Mark} {σ : State} {G : A → State → X → Type 0} {L : A → State → X → Traced}
    {c : List Instruction} {i : Instruction} {p : ℕ} {ops vs₁ ops₁ : List ℤ} {x : Trap} (hid : List ℤ)
    → Good P B below k t σ → At c p i → Fails i x (memory (σ.globals ++ spare P) (σ.locals ++ hid) ops cs (suc p)) (memory (σ.globals ++ spare P) vs₁ ops₁ cs (suc p))
    → After P n G L (mk P c cs hid p ops σ t) (stopped (trap (trap_number x) i.place) σ)
unfolding step
trapped {k} {i} {x} hid g h f =
    stops (record { credit = k; thin = g.thin; globals = refl; answer = answer.Trap x i.place; halts = refl; shows = refl }) (go (traps h f) here)

-- events
all_newer : (P : ℤ → Type 0) (l : List ℤ) → AllByRecursion P l → AllByRecursion P (newer l)
all_newer P [] h = h
all_newer P (x ∷ l) h = h.1

changed_samples : (m : Meaning) (c : ℕ) (ch : Channel) → Samples m → AllByRecursion Integer ch.waiting → Samples (changed m c ch)
changed_samples m c ch h k j = by_range (ltb c 16)
  where
    by_channel : (b : Bool) → AllByRecursion Integer (cond b ch (m j)).waiting
    by_channel true = k
    by_channel false = h j

    by_range : (b : Bool) → AllByRecursion Integer (cond b (λ i. cond (eqb i c) ch (m i)) m j).waiting
    by_range true = by_channel (eqb j c)
    by_range false = h j

module _ {P : Program} {B : Block} {below : List (List ℤ)} {k : ℕ} {t : List Mark} {σ : State} where
  pub g_event : (e : Event) → Good P B below k t σ → Good P B below k (passed e ∷ t) (happened e σ)
  g_event (took c z) g = record { thin = th_event g.thin; globals = g.globals; locals = g.locals; callers = g.callers; samples = changed_samples σ.port c _ g.samples (all_newer Integer (σ.port c).waiting (g.samples c)) }
  g_event (set_to c x) g = record { thin = th_event g.thin; globals = g.globals; locals = g.locals; callers = g.callers; samples = changed_samples σ.port c _ g.samples (g.samples c) }

  pub sample_value : (c : ℕ) (z : ℤ) → oldest (σ.port c).waiting ≡ Some z → Good P B below k t σ → Value INTEGER z
  sample_value c z e g = first_of (σ.port c).waiting e (g.samples c)
    where
      first_of : (l : List ℤ) → oldest l ≡ Some z → AllByRecursion Integer l → Within integer z
      first_of [] q h = absurd (let z : ◌≡◌ {A = ℕ} 0 1 = cc in omega arith)
      first_of (y ∷ l) q h = let e₁ : y ≡ z = cc in subst (Within integer) e₁ h.0

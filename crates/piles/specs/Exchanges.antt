-- What comes of an exchange on a channel that is empty.
use Rattle.std.specs.Prelude.{◌≡◌, ◌<◌, [], Some, Ok, Result}
use Rattle.ports.specs.declared.refusal.Refusal.{Refusal}
use Rattle.ports.specs.Channels.{Meaning, channels}
use Rattle.piles.specs.declared.exchange.Exchanged.{Exchanged}
use Rattle.piles.specs.declared.exchange.Handed.{Handed}

-- one sample waits, and is then taken, by the reading rule; what is last set is by the setting rule
abbrev pub Exchanges : Meaning → Handed → Result Exchanged Refusal → Type 0
Exchanges m h r =
    h.channel < channels → (m h.channel).waiting ≡ [] → 0 < (m h.channel).depth →
    r ≡ Ok (record { seen = record { waiting = 1; last = (m h.channel).setting h.set }; taken = Some ((m h.channel).reading h.fed) })

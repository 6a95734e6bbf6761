-- What a command does to the settings of a port.
use Rattle.std.specs.Prelude.{ℕ, cond, List, ℤ, Some, None, Ok, Option, Result, is_none, unwrap_or, int_le, nat_lt, slice_set}
use Rattle.integer.specs.Ends.{Ends}
use Rattle.clip.specs.Clips.{band_answer}
use Rattle.ports.specs.Calls.{set_answer}
use Rattle.ports.specs.Channels.{channels}
use Rattle.script.specs.declared.answer.Answer.{Answer}
use Rattle.script.specs.declared.answer.Answer.TheVariants.{Done, Unknown}
use Rattle.script.specs.declared.command.Command.{Command}
use Rattle.script.specs.declared.command.Command.TheVariants as command
use Rattle.script.specs.declared.settings.Base.{Base}
use Rattle.script.specs.declared.settings.Base.TheVariants as base
use Rattle.script.specs.Told.{told}

-- the port under all: a queue over 1,600 samples where no setting has come
abbrev pub base_of : Option Base → Base
base_of b = unwrap_or b (base.Queue 1600)

-- the answer to a setting, and none to any other command; the port is chosen only while no setting has come
abbrev pub setting_answer : Option Base → Command → Option (Result Answer ℕ)
setting_answer b (command.Queue l) = Some (Ok (cond (is_none b) Done Unknown))
setting_answer b command.Latch = Some (Ok (cond (is_none b) Done Unknown))
setting_answer b (command.Trim c o) = Some (told (λ _. Done) (set_answer c))
setting_answer b (command.Clip c l h) = Some (told (λ _. Done) (band_answer c l h))
setting_answer b (command.Feed c v) = None
setting_answer b (command.Look c) = None
setting_answer b (command.Take c) = None
setting_answer b (command.Set c v) = None

-- the port under all, once a setting has come
abbrev pub base_after : Option Base → Command → Option Base
base_after b (command.Queue l) = Some (unwrap_or b (base.Queue l))
base_after b command.Latch = Some (unwrap_or b base.Latch)
base_after b (command.Trim c o) = Some (base_of b)
base_after b (command.Clip c l h) = Some (base_of b)
base_after b (command.Feed c v) = b
base_after b (command.Look c) = b
base_after b (command.Take c) = b
base_after b (command.Set c v) = b

-- the offsets
abbrev pub offsets_after : List ℤ → Command → List ℤ
offsets_after os (command.Queue l) = os
offsets_after os command.Latch = os
offsets_after os (command.Trim c o) = cond (nat_lt c channels) (slice_set os c o) os
offsets_after os (command.Clip c l h) = os
offsets_after os (command.Feed c v) = os
offsets_after os (command.Look c) = os
offsets_after os (command.Take c) = os
offsets_after os (command.Set c v) = os

-- the bands
abbrev pub bands_after : List Ends → Command → List Ends
bands_after bs (command.Queue l) = bs
bands_after bs command.Latch = bs
bands_after bs (command.Trim c o) = bs
bands_after bs (command.Clip c l h) = cond (nat_lt c channels) (cond (int_le l h) (slice_set bs c (record { low = l; high = h })) bs) bs
bands_after bs (command.Feed c v) = bs
bands_after bs (command.Look c) = bs
bands_after bs (command.Take c) = bs
bands_after bs (command.Set c v) = bs

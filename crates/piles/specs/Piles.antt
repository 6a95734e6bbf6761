-- What a trim over a clip means.
use Rattle.clip.specs.Clips.{clipped}
use Rattle.trim.specs.Trims.{trimmed}
use Rattle.ports.specs.Channels.{Meaning}
use Rattle.piles.specs.declared.layer.Layer.{Layer}
use Rattle.piles.specs.declared.layer.Layers.{Layers}

-- a trim over a clip over a port
abbrev pub paired : Layer → Meaning → Meaning
paired l m = trimmed l.offsets.each (clipped l.bands.each m)

-- a pile of four over a port
abbrev pub piled : Layers → Meaning → Meaning
piled ls m = paired ls.high (paired ls.low m)

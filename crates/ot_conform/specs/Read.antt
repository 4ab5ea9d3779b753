-- A port's line as it was read.
use Rattle.std.specs.Prelude.{ℕ, List}
use Rattle.serde_json.specs.View.{view}
use Rattle.ot_conform.specs.Ports as ports
use Rattle.ot_conform.specs.Unknown.{Named, with_unknown}
use Rattle.ot_conform.specs.declared.lines.Given.{Given}
use Rattle.ot_conform.specs.declared.lines.Given.TheVariants.{Bytes, Read}
use Rattle.ot_conform.specs.declared.lines.PortLine.{PortLine}
use Rattle.ot_conform.specs.declared.lines.PortLine.TheVariants.{Told, OtherForm, NoText, Nothing}

abbrev pub read_as : PortLine → ports.PortLine
read_as (Told value) = ports.Told (view value)
read_as (OtherForm text) = ports.OtherForm text.now
read_as NoText = ports.NoText
read_as Nothing = ports.Nothing

-- a line to compare
abbrev pub given_as : Given → ports.PortLine
given_as (Bytes bytes) = ports.port_line bytes.now
given_as (Read line) = read_as line

-- the unknown keys of a line of this number that is read: those of a line that was read before are named already
abbrev pub notes_given : ℕ → Given → List Named → List Named
notes_given number (Bytes bytes) ns = with_unknown number (ports.port_line bytes.now) ns
notes_given number (Read line) ns = ns

-- The line of words for the first field of bytes that is refused.
use Rattle.std.specs.Prelude.{ℕ, List, [], ◌∷◌, ◌++◌, take, ◌/◌, ◌%◌, Option, option_map, false, codes, decimal, ◌==◌, if◌then◌else◌}
use Rattle.std.specs.Fmt.{digits}
use Rattle.ot_image.specs.declared.refusal.Place.{Place}
use Rattle.ot_image.specs.declared.refusal.Place.TheVariants as place
use Rattle.ot_image.specs.declared.refusal.Reason.{Reason}
use Rattle.ot_image.specs.declared.refusal.Reason.TheVariants as reason
use Rattle.ot_image.specs.declared.refusal.Refusal.{Refusal}
use Rattle.ot_image.specs.declared.refusal.Text.TheVariants.{Start, Insertion}
use Rattle.ot_image.specs.declared.refusal.Wanted.{Wanted}
use Rattle.ot_image.specs.declared.refusal.Wanted.TheVariants as wanted
use Rattle.ot_image.specs.Fields.{refusal_of}

-- ---- the path to a field

-- a field of an instruction, and of a component of it
abbrev pub of_instr : ℕ → List ℕ → List ℕ
of_instr i field = codes "instruction " ++ (decimal i ++ field)

abbrev pub of_component : ℕ → ℕ → List ℕ → List ℕ
of_component i k field = codes "instruction " ++ (decimal i ++ (codes ", component " ++ (decimal k ++ field)))

abbrev pub place_text : Place → List ℕ
place_text place.Magic = codes "magic"
place_text place.Clients = codes "clients"
place_text place.Present = codes "present"
place_text place.StartCount = codes "count of start characters"
place_text (place.Character Start n) = codes "start character " ++ decimal n
place_text (place.Character (Insertion i k) n) = of_component i k (codes ", character " ++ decimal n)
place_text place.InstrCount = codes "count of instructions"
place_text (place.InstrKind i) = of_instr i (codes ", kind")
place_text (place.Client i) = of_instr i (codes ", client")
place_text (place.ComponentCount i) = of_instr i (codes ", count of components")
place_text (place.ComponentKind i k) = of_component i k (codes ", kind")
place_text (place.ComponentLength i k) = of_component i k (codes ", length")
place_text place.End = codes "after the last instruction"

-- ---- what stands there

-- a byte as two hexadecimal digits
abbrev pub byte_text : ℕ → List ℕ
byte_text n = digits 16 false (n / 16) ++ digits 16 false (n % 16)

-- kinds as two hexadecimal digits, characters in hexadecimal, other numbers in decimal
abbrev pub value_text : Place → ℕ → List ℕ
value_text place.Magic n = decimal n
value_text place.Clients n = decimal n
value_text place.Present n = decimal n
value_text place.StartCount n = decimal n
value_text (place.Character text k) n = codes "0x" ++ digits 16 false n
value_text place.InstrCount n = decimal n
value_text (place.InstrKind i) n = codes "0x" ++ byte_text n
value_text (place.Client i) n = decimal n
value_text (place.ComponentCount i) n = decimal n
value_text (place.ComponentKind i k) n = codes "0x" ++ byte_text n
value_text (place.ComponentLength i k) n = decimal n
value_text place.End n = decimal n

-- bytes in hexadecimal, each behind a blank
abbrev pub next_byte_text : ℕ → List ℕ
next_byte_text b = codes " " ++ byte_text b

abbrev pub bytes_text : List ℕ → List ℕ
bytes_text [] = []
bytes_text (b ∷ bs) = next_byte_text b ++ bytes_text bs

-- `1 byte`, `2 bytes`
abbrev pub count_text : ℕ → List ℕ
count_text n = if n == 1 then codes "1 byte" else decimal n ++ codes " bytes"

-- ---- what is wanted

-- the first version has no join
abbrev pub instr_text : ℕ → List ℕ
instr_text version =
    if version == 1 then codes "0x01 (edit), 0x02 (take), 0x03 (deliver), 0x04 (ack), 0x05 (read) or 0x06 (read-server)"
    else codes "0x01 (edit), 0x02 (take), 0x03 (deliver), 0x04 (ack), 0x05 (read), 0x06 (read-server) or 0x07 (join)"

-- which component does not stand behind which
abbrev pub behind_text : ℕ → ℕ → List ℕ
behind_text last code =
    if code == 16 then codes "no retain behind a retain" else
    (if code == 18 then codes "no deletion behind a deletion" else
    (if last == 17 then codes "no insertion behind an insertion" else codes "no insertion behind a deletion"))

abbrev pub wanted_text : Wanted → List ℕ
wanted_text (wanted.Positive most) = codes "a number from 1 to " ++ decimal most
wanted_text (wanted.Number most) = codes "a number from 0 to " ++ decimal most
wanted_text (wanted.Most most) = codes "at most " ++ decimal most
wanted_text wanted.Scalar = codes "a Unicode scalar value"
wanted_text (wanted.Instr version) = instr_text version
wanted_text wanted.Component = codes "0x10 (retain), 0x11 (insert) or 0x12 (delete)"
wanted_text (wanted.NotBehind last code) = behind_text last code
wanted_text wanted.NotZero = codes "not 0"
wanted_text (wanted.WithinBase most) = codes "at most " ++ (decimal most ++ codes ", for a base length of at most 1000000")
wanted_text (wanted.WithinTarget most) = codes "at most " ++ (decimal most ++ codes ", for a target length of at most 1000000")

-- ---- the line

abbrev pub no_magic_text : List ℕ → List ℕ
no_magic_text bytes = codes "found" ++ (bytes_text (take 4 bytes) ++ codes "; wanted 4f 54 53 31 (OTS1) or 4f 54 53 32 (OTS2)")

abbrev pub reason_text : List ℕ → Place → Reason → List ℕ
reason_text bytes p (reason.Cut found size) = codes "found " ++ (decimal found ++ (codes " of " ++ count_text size))
reason_text bytes p reason.NoMagic = no_magic_text bytes
reason_text bytes p (reason.Value value wanted) = codes "found " ++ (value_text p value ++ (codes "; wanted " ++ wanted_text wanted))
reason_text bytes p (reason.Trailing found) = codes "found " ++ (count_text found ++ codes "; wanted nothing")

abbrev pub refusal_text : List ℕ → Refusal → List ℕ
refusal_text bytes r = codes "  " ++ (place_text r.place ++ (codes ": " ++ (reason_text bytes r.place r.reason ++ codes "\n")))

-- the words for bytes that are no image
abbrev pub first_words : List ℕ → Option (List ℕ)
first_words bytes = option_map (refusal_text bytes) (refusal_of bytes)

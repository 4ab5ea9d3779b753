-- The definitions on small examples.
use Rattle.std.proofs.Common.{◌≡◌, List, [], ◌∷◌, refl}
use Rattle.ot_operation.specs.Operation.{Old, New, Operation}
use Rattle.ot_isa.specs.declared.elements.Tagged.{Tagged}
use Rattle.ot_isa.specs.Tagging.{tagged_char, tagged_chars, tagged_operation, chars_of}

-- client 3, who has made seven characters so far, inserts "b" after one item: [1,"b"]
b_by_client_3 : ◌≡◌ {A = Operation Tagged}
    (tagged_operation (record { base = 1; image = Old 0 ∷ New 98 ∷ [] }) 3 7)
    (record { base = 1; image = Old 0 ∷ New (record { ch = 98; tag = record { origin = 3; serial = 7 } }) ∷ [] })
b_by_client_3 = refl

-- two insertions of one edit, with a deletion between them: ["a",-1,1,"b"] numbers both
two_by_client_0 : ◌≡◌ {A = Operation Tagged}
    (tagged_operation (record { base = 2; image = New 97 ∷ Old 1 ∷ New 98 ∷ [] }) 0 0)
    (record { base = 2; image = New (tagged_char 0 0 97) ∷ Old 1 ∷ New (tagged_char 0 1 98) ∷ [] })
two_by_client_0 = refl

-- the document of the start text "xy", and its text
xy_at_start : ◌≡◌ {A = List Tagged}
    (tagged_chars 65535 0 (120 ∷ 121 ∷ []))
    ((record { ch = 120; tag = record { origin = 65535; serial = 0 } }) ∷ (record { ch = 121; tag = record { origin = 65535; serial = 1 } }) ∷ [])
xy_at_start = refl

xy_without_tags : chars_of (tagged_chars 65535 0 (120 ∷ 121 ∷ [])) ≡ 120 ∷ 121 ∷ []
xy_without_tags = refl

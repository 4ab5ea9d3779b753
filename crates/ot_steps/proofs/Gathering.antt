-- Texts that are held before they are written.
use Rattle.std.proofs.Common.{◌≡◌, ℕ, List, [], ◌++◌, sym, ap, ◌∙◌, subst, Option}
use Rattle.std.proofs.lemmas.List.{append_assoc, append-nil}
use Rattle.std.specs.Io.KnownBytes.{Appends}
use Rattle.std.proofs.KnownBytes.{Appends-nil, Appends-trans}
use Rattle.streams.specs.Streams.{WritesPart}
use Rattle.streams.proofs.Parts.{part_after}
use Rattle.ot_steps.specs.Gathered.{Gathers}

-- nothing is added
pub gathers_none : (a : Option (List ℕ)) (held : List ℕ) → Gathers a a held held []
gathers_none a held = record { front = []; written = Appends-nil a; is = append-nil held }

-- one text behind another
behind : (held x y front later : List ℕ) → held ++ x ≡ front ++ later → held ++ (x ++ y) ≡ front ++ (later ++ y)
behind held x y front later is = sym (append_assoc held x y) ∙ ap (λ (t : List ℕ). t ++ y) is ∙ append_assoc front later y

pub gathers_then : (a b c : Option (List ℕ)) (held mid later x y : List ℕ) → Gathers a b held mid x → Gathers b c mid later y → Gathers a c held later (x ++ y)
gathers_then a b c held mid later x y first second =
    record {
      front = first.front ++ second.front;
      written = Appends-trans a b c first.front second.front first.written second.written;
      is = behind held x y first.front mid first.is ∙ ap (λ (t : List ℕ). first.front ++ t) second.is ∙ sym (append_assoc first.front second.front later);
    }

-- and then a write fails
pub cut_after : (a b c : Option (List ℕ)) (held mid x y : List ℕ) → Gathers a b held mid x → WritesPart b c (mid ++ y) → WritesPart a c (held ++ (x ++ y))
cut_after a b c held mid x y first cut =
    subst (WritesPart a c) (sym (behind held x y first.front mid first.is)) (part_after a b c first.front (mid ++ y) first.written cut)

-- what is held at last is written, or a part of it
pub flushed : (a b c : Option (List ℕ)) (none held text : List ℕ) → none ≡ [] → Gathers a b none held text → Appends b c held → Appends a c text
flushed a b c none held text is gathered written =
    subst (Appends a c) (sym gathered.is ∙ ap (λ (t : List ℕ). t ++ text) is) (Appends-trans a b c gathered.front held gathered.written written)

pub flush_cut : (a b c : Option (List ℕ)) (none held text : List ℕ) → none ≡ [] → Gathers a b none held text → WritesPart b c held → WritesPart a c text
flush_cut a b c none held text is gathered cut =
    subst (WritesPart a c) (sym gathered.is ∙ ap (λ (t : List ℕ). t ++ text) is) (part_after a b c gathered.front held gathered.written cut)

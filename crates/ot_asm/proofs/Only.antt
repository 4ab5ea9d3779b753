-- What a text spells is what is made of it, unless something else fails.
use Rattle.std.proofs.Common.{◌≡◌, ◌≢◌, ◌⊎◌, inl, refl, inr, ℕ, List, Option, None, Some, Result, Ok, Err, sym, ◌∙◌}
use Rattle.std.specs.Prelude.{IfOk, IfErr, IfSome}
use Rattle.ot_isa.specs.Program.{Program}
use Rattle.ot_asm.specs.Stepping.{outcome}
use Rattle.ot_asm.specs.Spelling.{Spells}
use Rattle.ot_asm.specs.declared.fault.AsmFault.{AsmFault}
use Rattle.ot_asm.specs.declared.fault.Kind.{Kind}
use Rattle.ot_asm.specs.declared.fault.Kind.TheVariants.{BadText, NoClients, UnknownWord, BadNumber, BadClient, BadOperation, Extra, TooLong, TooMany, Memory, ReadFault}
use Rattle.ot_asm.proofs.Spelled.{spelled}

same_ok : (s p : Program) → ◌≡◌ {A = Result Program AsmFault} (Ok s) (Ok p) → s ≡ p
same_ok s p e = cc

no_fault : (p : Program) (f : AsmFault) → ◌≡◌ {A = Result Program AsmFault} (Ok p) (Err f) → ⊥
no_fault p f e = absurd cc

pub only : (text : List ℕ) (r : Result Program AsmFault) (p : Program) → Spells text p → IfOk r (λ s. outcome text ≡ Ok s) → IfErr r (λ f. (f.kind ≡ Memory) ⊎ (outcome text ≡ Err f))
    → IfOk r (λ s. s ≡ p) × IfErr r (λ f. f.kind ≡ Memory)
only text (Ok s) p is read err = (same_ok s p (sym read ∙ spelled text p is), tt)
only text (Err f) p is read (inl memory) = (tt, memory)
only text (Err f) p is read (inr fault) = (tt, absurd (no_fault p f (sym (spelled text p is) ∙ fault)))

-- a kind that cannot be another is one of the two
one_of : (kind : Kind) → (kind ≢ Memory → kind ≢ ReadFault → ⊥) → (kind ≡ Memory) ⊎ (kind ≡ ReadFault)
one_of Memory neither = inl refl
one_of ReadFault neither = inr refl
one_of BadText neither = absurd (neither (λ e. absurd cc) (λ e. absurd cc))
one_of NoClients neither = absurd (neither (λ e. absurd cc) (λ e. absurd cc))
one_of UnknownWord neither = absurd (neither (λ e. absurd cc) (λ e. absurd cc))
one_of BadNumber neither = absurd (neither (λ e. absurd cc) (λ e. absurd cc))
one_of BadClient neither = absurd (neither (λ e. absurd cc) (λ e. absurd cc))
one_of BadOperation neither = absurd (neither (λ e. absurd cc) (λ e. absurd cc))
one_of Extra neither = absurd (neither (λ e. absurd cc) (λ e. absurd cc))
one_of TooLong neither = absurd (neither (λ e. absurd cc) (λ e. absurd cc))
one_of TooMany neither = absurd (neither (λ e. absurd cc) (λ e. absurd cc))

-- the same of a reader, whose bytes may be known
pub only_known : (known : Option (List ℕ)) (r : Result Program AsmFault) (p : Program) → IfOk r (λ s. IfSome known (λ t. outcome t ≡ Ok s))
    → IfErr r (λ f. f.kind ≢ Memory → f.kind ≢ ReadFault → IfSome known (λ t. outcome t ≡ Err f))
    → IfSome known (λ t. Spells t p → IfOk r (λ s. s ≡ p) × IfErr r (λ f. (f.kind ≡ Memory) ⊎ (f.kind ≡ ReadFault)))
only_known None r p read err = tt
only_known (Some text) (Ok s) p read err = λ is. (same_ok s p (sym read ∙ spelled text p is), tt)
only_known (Some text) (Err f) p read err = λ is. (tt, one_of f.kind (λ not_memory not_read. no_fault p f (sym (spelled text p is) ∙ err not_memory not_read)))

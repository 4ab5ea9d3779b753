use Rattle.std.proofs.Common.{◌≡◌, ◌⊎◌, ℕ, List, Result, Ok, Err, sym, ◌∙◌, arith, ap, inl, inr}
use Rattle.std.specs.Prelude.{◌<◌, Some, None, IfOk, IfErr, IfSome}
use Rattle.ot_isa.specs.Program.{Program, IsProgram}
use Rattle.ot_image.specs.declared.fault.ImageFault.{ImageFault}
use Rattle.ot_image.specs.declared.fault.Kind.TheVariants.{Memory}
use Rattle.ot_image.specs.Reading.{image_of, IsWant}
use Rattle.ot_image.specs.Spelling.{IsImageOf}
use Rattle.ot_image.specs.Layout.{fault_of, fault_in}
use Rattle.ot_image.proofs.Fields.{ok_is}
use Rattle.ot_image.proofs.Faults.{faults_agree}
use Rattle.ot_image.proofs.Spelled.{IsBytes}
use Rattle.ot_image.proofs.Images.{image_found, image_only}
use Rattle.ot_image.proofs.loading.load.Goals as goal

is_found : (bytes : List ℕ) (r : Result Program ImageFault) → IsBytes bytes → IfOk r (λ s. IsProgram s) → IfOk r (λ s. image_of bytes ≡ Ok s) → IfOk r (λ s. IsImageOf bytes s)
is_found bytes (Ok s) fits is read = (is, image_found bytes s fits read)
is_found bytes (Err f) fits is read = tt

is_only : (bytes : List ℕ) (r : Result Program ImageFault) (p : Program) → IsImageOf bytes p → IfOk r (λ s. image_of bytes ≡ Ok s) → IfErr r (λ f. (image_of bytes ≡ Err f) ⊎ IsWant bytes f)
    → IfOk r (λ s. s ≡ p) × IfErr r (λ f. f.kind ≡ Memory)
is_only bytes (Ok s) p is read err = (ok_is s p (sym read ∙ image_only bytes p is), tt)
is_only bytes (Err f) p is read (inr want) = (tt, want.0)
is_only bytes (Err f) p is read (inl fault) = (tt, absurd (ok_err p f (sym (image_only bytes p is) ∙ fault)))
  where
    ok_err : (q : Program) (g : ImageFault) → ◌≡◌ {A = Result Program ImageFault} (Ok q) (Err g) → ⊥
    ok_err q g e = absurd cc

is_field : (bytes : List ℕ) (r : Result Program ImageFault) → IfErr r (λ f. (image_of bytes ≡ Err f) ⊎ IsWant bytes f)
    → IfErr r (λ f. (fault_of bytes ≡ Some f) ⊎ ((f.kind ≡ Memory) × IfSome (fault_of bytes) (λ g. f.at < g.at)))
is_field bytes (Ok s) err = tt
is_field bytes (Err f) (inl fault) = inl (faults_agree bytes ∙ ap fault_in fault)
is_field bytes (Err f) (inr want) = inr (want.0, later (image_of bytes) (faults_agree bytes) want.1)
  where
    later : (r : Result Program ImageFault) → fault_of bytes ≡ fault_in r → IfErr r (λ g. f.at < g.at) → IfSome (fault_of bytes) (λ g. f.at < g.at)
    later (Ok p) e h = rw e tt
    later (Err g) e h = rw e h

no_field : (bytes : List ℕ) (r : Result Program ImageFault) → IfOk r (λ s. image_of bytes ≡ Ok s) → IfOk r (λ s. fault_of bytes ≡ None)
no_field bytes (Ok s) read = faults_agree bytes ∙ ap fault_in read
no_field bytes (Err f) read = tt

pub returns-clause-found : goal.returns-clause-found
returns-clause-found c = is_found c.args.bytes.now c.loaded.result (λ i. omega (arith, c.type_inv.bytes i)) c.loaded.ensures.limits c.loaded.ensures.ok

pub returns-clause-only : goal.returns-clause-only
returns-clause-only c = λ p is. is_only c.args.bytes.now c.loaded.result p is c.loaded.ensures.ok c.loaded.ensures.err

pub returns-clause-field : goal.returns-clause-field
returns-clause-field c = is_field c.args.bytes.now c.loaded.result c.loaded.ensures.err

pub returns-clause-no_field : goal.returns-clause-no_field
returns-clause-no_field c = no_field c.args.bytes.now c.loaded.result c.loaded.ensures.ok

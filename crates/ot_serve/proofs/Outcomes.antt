-- What is written and answered, from its parts.
use Rattle.std.proofs.Common.{◌≡◌, ◌⊎◌, ℕ, Bool, List, Option, Some, None, inl, inr, refl, arith, true}
use Rattle.std.specs.Prelude.{IfSome, IsSome}
use Rattle.std.proofs.KnownBytes.{Keeps-refl}
use Rattle.streams.specs.Streams.{Writes}
use Rattle.clap.specs.Words.{Text, takes}
use Rattle.streams.specs.Outcomes.{Streams, memory_fault}
use Rattle.ot_words.specs.declared.words.Asked.{Asked}
use Rattle.ot_words.specs.Requests.{otbench_app, request_of}
use Rattle.ot_serve.specs.Served.{ServesAsked, ServesWords}

-- a subcommand
pub served : (words : List Text) (input : Option (List ℕ)) (unread : Bool) (asked : Asked) (status : ℕ) (streams : Streams) → request_of words ≡ Some asked
    → IfSome input (λ text. ServesAsked asked unread text status streams) → IfSome input (λ text. ServesWords words unread text status streams)
served words None unread asked status streams says serves = tt
served words (Some text) unread asked status streams says serves = inl (asked, says, serves)

-- a request that is not there
none_of : (request : Option Asked) → (IsSome request → ⊥) → request ≡ None
none_of None missing = refl
none_of (Some request) missing = absurd (missing refl)

-- no subcommand
pub none_served : (words : List Text) (input output faults faults' : Option (List ℕ)) (unread broken faults_broken : Bool) (status : ℕ)
    → (takes otbench_app words ≡ true → IsSome (request_of words) → status ≡ 1)
    → (status ≡ 2 → (text : List ℕ) × Writes faults faults' faults_broken text) → ((status ≡ 1) × Writes faults faults' faults_broken memory_fault) ⊎ (status ≡ 2)
    → IfSome input (λ text. ServesWords words unread text status (record { output = output; output' = output; broken = broken; faults = faults; faults' = faults'; faults_broken = faults_broken }))
none_served words None output faults faults' unread broken faults_broken status refused told wanting = tt
none_served words (Some text) output faults faults' unread broken faults_broken status refused told (inl wanting) = inr (inr (wanting.0, Keeps-refl output, wanting.1))
none_served words (Some text) output faults faults' unread broken faults_broken status refused told (inr two) =
    inr (inl ((λ taken. none_of (request_of words) (λ some. absurd (omega (arith, two, refused taken some)))), (two, Keeps-refl output, told two)))

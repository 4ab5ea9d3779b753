-- From the bytes that were read to the input.
use Rattle.std.proofs.Common.{◌≡◌, ◌∙◌, ℕ, Bool, List, Option, Some, None, inr, subst}
use Rattle.std.specs.Prelude.{IfSome}
use Rattle.streams.specs.Outcomes.{Streams}
use Rattle.ot_commands.specs.Explains.{Explains, ExplainsText}
use Rattle.ot_commands.specs.ExplainsImages.{ExplainsBytes, ExplainsImage}

pub explained : (input : Option (List ℕ)) (unread : Bool) (bytes read : List ℕ) (status : ℕ) (streams : Streams) → IfSome input (λ text. bytes ≡ text) → read ≡ bytes → ExplainsText read status streams
    → IfSome input (λ text. Explains unread text status streams)
explained None unread bytes read status streams is same does = tt
explained (Some text) unread bytes read status streams is same does = inr (subst (λ (t : List ℕ). ExplainsText t status streams) (same ∙ is) does)

pub explained_image : (input : Option (List ℕ)) (unread : Bool) (bytes read : List ℕ) (status : ℕ) (streams : Streams) → IfSome input (λ text. bytes ≡ text) → read ≡ bytes → ExplainsBytes read status streams
    → IfSome input (λ text. ExplainsImage unread text status streams)
explained_image None unread bytes read status streams is same does = tt
explained_image (Some text) unread bytes read status streams is same does = inr (subst (λ (t : List ℕ). ExplainsBytes t status streams) (same ∙ is) does)

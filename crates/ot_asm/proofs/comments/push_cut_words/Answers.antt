use Rattle.std.proofs.Common.{◌≡◌, ◌∙◌, ◌++◌, ap, List, ℕ}
use Rattle.std.specs.Prelude.{codes}
use Rattle.ot_asm.specs.Comments.{behind_colon}
use Rattle.ot_asm.proofs.Joined.{three}
use Rattle.ot_asm.proofs.comments.push_cut_words.Goals as goal

pub returns : goal.returns
returns c =
    let text = c.args.text.now.items in
    let is_one : c.extend_from_slice.new.self.items ≡ text ++ codes "the schedule ends before its logs" = c.in_ok-extend_from_slice.ensures.items ∙ ap (λ (t : List ℕ). text ++ t) c.as_slice.ensures in
    let is_all : c.extend_from_slice-2.new.self.items ≡ c.push_behind_colon.new.text.items ++ codes "\n" = c.in_ok-extend_from_slice-2.ensures.items ∙ ap (λ (t : List ℕ). c.push_behind_colon.new.text.items ++ t) c.as_slice-2.ensures in
    three text c.extend_from_slice.new.self.items c.push_behind_colon.new.text.items c.extend_from_slice-2.new.self.items (codes "the schedule ends before its logs") (behind_colon c.args.words.now) (codes "\n")
    is_one c.in_ok-push_behind_colon.ensures is_all

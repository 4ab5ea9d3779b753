-- An operation has the size that it has without its tags; what is shown of it.
use Rattle.std.proofs.Common.{◌≡◌, ℕ, zero, suc, ◌-◌, List, [], ◌∷◌, map, length, refl, ap, ◌∙◌, true, false}
use Rattle.std.specs.Prelude.{◌&&◌, nat_le}
use Rattle.std.proofs.lemmas.List.{length-map}
use Rattle.ot_operation.specs.Operation as text
use Rattle.ot_operation.specs.Run.{Run, Keep, Add, Skip, normal_runs, normal_runs_from, with_keep, with_new, with_skip}
use Rattle.ot_isa.specs.declared.elements.Tagged.{Tagged}
use Rattle.ot_json.specs.Writing.{text_of_operation}
use Rattle.ot_model.specs.Operation.{Item, Old, New, Operation}
use Rattle.ot_steps.specs.Lettered.{lettered}
use Rattle.ot_steps.specs.Lines.{plain_item, plain_operation}
use Rattle.ot_explain.specs.Words.{is_short, operation_words, size_words}

-- ---- the components without their tags

abbrev plain_run : Run Tagged → Run ℕ
plain_run run = lettered (λ (x : Tagged). x.ch) run

keep_plain : (runs : List (Run Tagged)) → with_keep (map plain_run runs) ≡ map plain_run (with_keep runs)
keep_plain [] = refl
keep_plain (Keep n ∷ runs) = refl
keep_plain (Add text ∷ runs) = refl
keep_plain (Skip n ∷ runs) = refl

new_plain : (x : Tagged) (runs : List (Run Tagged)) → with_new x.ch (map plain_run runs) ≡ map plain_run (with_new x runs)
new_plain x [] = refl
new_plain x (Keep n ∷ runs) = refl
new_plain x (Add text ∷ runs) = refl
new_plain x (Skip n ∷ runs) = refl

skip_plain : (n : ℕ) (runs : List (Run Tagged)) → with_skip n (map plain_run runs) ≡ map plain_run (with_skip n runs)
skip_plain zero runs = refl
skip_plain (suc n) runs = refl

runs_plain : (from : ℕ) (items : List (Item Tagged)) (end : ℕ) → normal_runs_from from (map plain_item items) end ≡ map plain_run (normal_runs_from from items end)
runs_plain from [] end = skip_plain (end - from) []
runs_plain from (New x ∷ items) end = ap (λ (runs : List (Run ℕ)). with_new x.ch runs) (runs_plain from items end) ∙ new_plain x (normal_runs_from from items end)
runs_plain from (Old i ∷ items) end =
    let later = normal_runs_from (suc i) items end in
    ap (λ (runs : List (Run ℕ)). with_skip (i - from) (with_keep runs)) (runs_plain (suc i) items end)
    ∙ ap (λ (runs : List (Run ℕ)). with_skip (i - from) runs) (keep_plain later)
    ∙ skip_plain (i - from) (with_keep later)

-- ---- the numbers

pub components_plain : (op : Operation Tagged) → length (normal_runs (plain_operation op)) ≡ length (normal_runs op)
components_plain op = ap length (runs_plain 0 op.image op.base) ∙ length-map (normal_runs op) plain_run

news_plain : (items : List (Item Tagged)) → length (text.news (map plain_item items)) ≡ length (text.news items)
news_plain [] = refl
news_plain (Old i ∷ items) = news_plain items
news_plain (New x ∷ items) = ap (λ (n : ℕ). suc n) (news_plain items)

pub short_plain : (op : Operation Tagged) → is_short (plain_operation op) ≡ is_short op
short_plain op = λ i. nat_le (components_plain op i) 40 && nat_le (news_plain op.image i) 200

-- ---- what is shown

pub whole : (op : Operation ℕ) → is_short op ≡ true → text_of_operation op ≡ operation_words op
unfolding operation_words
whole op short = rw short refl

pub by_size : (op : Operation ℕ) (count base target : ℕ) → is_short op ≡ false → count ≡ length (normal_runs op) → base ≡ op.base → target ≡ length op.image → size_words count base target ≡ operation_words op
unfolding operation_words
by_size op count base target long is_count is_base is_target = rw long (λ i. size_words (is_count i) (is_base i) (is_target i))

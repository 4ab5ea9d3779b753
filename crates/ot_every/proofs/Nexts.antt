-- The instructions that may come next: all that the table performs, each once.
use Rattle.std.proofs.Common.{◌≡◌, ℕ, zero, suc, ◌+◌, ◌≤◌, List, [], ◌∷◌, ◌++◌, length, refl, sym, ap, ◌∙◌, subst, arith, inl, inr, Option, Some}
use Rattle.std.specs.Prelude.{slice_get}
use Rattle.std.proofs.lemmas.Option.{same_Some}
use Rattle.ot_isa.specs.declared.instruction.Instr.{Instr}
use Rattle.ot_isa.specs.declared.instruction.Instr.TheVariants.{Edit, Take, Deliver, Acknowledge, Join, Read, ReadServer}
use Rattle.ot_model.specs.declared.shown.Shown.{Shown}
use Rattle.ot_model.specs.Operation.{Operation}
use Rattle.ot_model.specs.Table.{Client, State, Performed, step}
use Rattle.ot_model.specs.Orders.{Machine, ClientMachine, ServerMachine}
use Rattle.ot_model.proofs.Outcomes.{by_edit, by_take, by_deliver, by_acknowledge, by_join}
use Rattle.ot_every.specs.Forms.{forms}
use Rattle.ot_every.specs.Listing.{machine_of, edits, at_clients, takes, candidates}
use Rattle.ot_every.proofs.Lists.{IsIn, in_left, in_right, in_cases, in_map, map_cases, Pairwise, pairwise_append, pairwise_map, pairwise_weaker}
use Rattle.ot_every.proofs.Forms.{IsListed, forms_all, forms_differ, forms_listed}

-- ---- an instruction of the list, by its form

-- an edit has the next text, and no instruction reads
abbrev pub IsNext : ℕ → List (List ℕ) → Instr → Type 0
IsNext inserts [] (Edit c op) = ⊥
IsNext inserts (text ∷ texts) (Edit c op) = IsListed text 0 op.base inserts op.image
IsNext inserts texts (Take c) = Unit {0}
IsNext inserts texts (Deliver c) = Unit {0}
IsNext inserts texts (Acknowledge c) = Unit {0}
IsNext inserts texts (Join c) = Unit {0}
IsNext inserts texts (Read c) = ⊥
IsNext inserts texts ReadServer = ⊥

-- every text has a letter
abbrev pub HaveLetters : List (List ℕ) → Type 0
HaveLetters [] = Unit {0}
HaveLetters ([] ∷ texts) = ⊥
HaveLetters ((x ∷ text) ∷ texts) = HaveLetters texts

edits_next : (inserts : ℕ) (texts : List (List ℕ)) (c count : ℕ) (i : Instr) → HaveLetters texts → IsIn i (edits inserts texts c count) → IsNext inserts texts i × (machine_of i ≡ ClientMachine c)
edits_next inserts [] c count i letters h = absurd h
edits_next inserts ([] ∷ texts) c count i letters h = absurd letters
edits_next inserts ((x ∷ text) ∷ texts) c count i letters h =
    let r = map_cases (Edit c) i (forms (x ∷ text) inserts count) h in
    let l = forms_listed x text inserts count r.0 r.1 in
    let listed = subst (λ (n : ℕ). IsListed (x ∷ text) 0 n inserts r.0.image) (sym l.0) l.1 in
    subst (λ (j : Instr). IsNext inserts ((x ∷ text) ∷ texts) j × (machine_of j ≡ ClientMachine c)) (sym r.2) (listed, refl)

pub next_deliver : (inserts : ℕ) (texts : List (List ℕ)) (c : ℕ) → IsNext inserts texts (Deliver c)
next_deliver inserts [] c = tt
next_deliver inserts (t ∷ texts) c = tt

pub next_acknowledge : (inserts : ℕ) (texts : List (List ℕ)) (c : ℕ) → IsNext inserts texts (Acknowledge c)
next_acknowledge inserts [] c = tt
next_acknowledge inserts (t ∷ texts) c = tt

pub next_join : (inserts : ℕ) (texts : List (List ℕ)) (c : ℕ) → IsNext inserts texts (Join c)
next_join inserts [] c = tt
next_join inserts (t ∷ texts) c = tt

pub next_take : (inserts : ℕ) (texts : List (List ℕ)) (c : ℕ) → IsNext inserts texts (Take c)
next_take inserts [] c = tt
next_take inserts (t ∷ texts) c = tt

-- at a client's machine, of a client from c on
at_clients_next : (inserts : ℕ) (texts : List (List ℕ)) (c : ℕ) (clients : List Client) (i : Instr) → HaveLetters texts → IsIn i (at_clients inserts texts c clients) → IsNext inserts texts i × (d : ℕ) × (c ≤ d) × (machine_of i ≡ ClientMachine d)
at_clients_next inserts texts c [] i letters h = absurd h
at_clients_next inserts texts c (x ∷ clients) i letters h = elim (in_cases i (edits inserts texts c (length x.list)) _ h) [
  | inl edit ↦ let r = edits_next inserts texts c (length x.list) i letters edit in (r.0, c, omega arith, r.1)
  | inr (inl e) ↦ subst (λ (j : Instr). IsNext inserts texts j × (d : ℕ) × (c ≤ d) × (machine_of j ≡ ClientMachine d)) (sym e) (next_deliver inserts texts c, c, omega arith, refl)
  | inr (inr (inl e)) ↦ subst (λ (j : Instr). IsNext inserts texts j × (d : ℕ) × (c ≤ d) × (machine_of j ≡ ClientMachine d)) (sym e) (next_acknowledge inserts texts c, c, omega arith, refl)
  | inr (inr (inr (inl e))) ↦ subst (λ (j : Instr). IsNext inserts texts j × (d : ℕ) × (c ≤ d) × (machine_of j ≡ ClientMachine d)) (sym e) (next_join inserts texts c, c, omega arith, refl)
  | inr (inr (inr (inr later))) ↦ let r = at_clients_next inserts texts (suc c) clients i letters later in let le = r.2 in (r.0, r.1, omega (arith, le), r.3)
]

takes_next : (c : ℕ) (clients : List Client) (i : Instr) → IsIn i (takes c clients) → (d : ℕ) × (c ≤ d) × (i ≡ Take d)
takes_next c [] i h = absurd h
takes_next c (x ∷ clients) i (inl e) = (c, omega arith, e)
takes_next c (x ∷ clients) i (inr h) = let r = takes_next (suc c) clients i h in let le = r.1 in (r.0, omega (arith, le), r.2)

pub candidates_next : (inserts : ℕ) (texts : List (List ℕ)) (s : State) (i : Instr) → HaveLetters texts → IsIn i (candidates inserts texts s) → IsNext inserts texts i
candidates_next inserts texts s i letters h = elim (in_cases i (at_clients inserts texts 0 s.clients) (takes 0 s.clients) h) [
  | inl client ↦ (at_clients_next inserts texts 0 s.clients i letters client).0
  | inr take ↦ let r = takes_next 0 s.clients i take in subst (IsNext inserts texts) (sym r.2) (next_take inserts texts r.0)
]

-- ---- each once

operation_or : Operation ℕ → Instr → Operation ℕ
operation_or d (Edit c op) = op
operation_or d (Take c) = d
operation_or d (Deliver c) = d
operation_or d (Acknowledge c) = d
operation_or d (Join c) = d
operation_or d (Read c) = d
operation_or d ReadServer = d

same_operation : (c : ℕ) (a b : Operation ℕ) → Edit c a ≡ Edit c b → a ≡ b
unfolding operation_or
same_operation c a b e = ap (operation_or a) e

edits_differ : (inserts : ℕ) (texts : List (List ℕ)) (c count : ℕ) → HaveLetters texts → Pairwise (λ a b. a ≡ b → ⊥) (edits inserts texts c count)
edits_differ inserts [] c count letters = tt
edits_differ inserts ([] ∷ texts) c count letters = absurd letters
edits_differ inserts ((x ∷ text) ∷ texts) c count letters =
    pairwise_map (λ a b. a ≡ b → ⊥) (Edit c) (forms (x ∷ text) inserts count)
    (pairwise_weaker (λ a b. a ≡ b → ⊥) _ (forms (x ∷ text) inserts count) (λ a b h k other e. other (same_operation c a b e)) (forms_differ x text inserts count))

is_edit : (inserts : ℕ) (texts : List (List ℕ)) (c count : ℕ) (i : Instr) → IsIn i (edits inserts texts c count) → (op : Operation ℕ) × (i ≡ Edit c op)
is_edit inserts [] c count i h = absurd h
is_edit inserts (text ∷ texts) c count i h = let r = map_cases (Edit c) i (forms text inserts count) h in (r.0, r.2)

number_of : Machine → ℕ
number_of (ClientMachine c) = c
number_of ServerMachine = 0

number : (c d : ℕ) → ClientMachine c ≡ ClientMachine d → c ≡ d
unfolding number_of
number c d e = ap number_of e

client_later : (c : ℕ) (i j : Instr) (d : ℕ) → machine_of i ≡ ClientMachine c → suc c ≤ d → machine_of j ≡ ClientMachine d → i ≡ j → ⊥
client_later c i j d own le other e =
    let same : ClientMachine c ≡ ClientMachine d = sym own ∙ ap machine_of e ∙ other in
    let n : c ≡ d = number c d same in absurd (omega (arith, le, n))

at_clients_differ : (inserts : ℕ) (texts : List (List ℕ)) (c : ℕ) (clients : List Client) → HaveLetters texts → Pairwise (λ a b. a ≡ b → ⊥) (at_clients inserts texts c clients)
at_clients_differ inserts texts c [] letters = tt
at_clients_differ inserts texts c (x ∷ clients) letters =
    let later = at_clients inserts texts (suc c) clients in
    let client : (i j : Instr) → machine_of i ≡ ClientMachine c → IsIn j later → i ≡ j → ⊥ = λ i j own h. (let r = at_clients_next inserts texts (suc c) clients j letters h in client_later c i j r.1 own r.2 r.3) in
    pairwise_append (λ a b. a ≡ b → ⊥) (edits inserts texts c (length x.list)) (Deliver c ∷ Acknowledge c ∷ Join c ∷ later) (edits_differ inserts texts c (length x.list) letters) (
      (λ j h e. elim h [ inl f ↦ absurd (let both = e ∙ f in cc) | inr (inl f) ↦ absurd (let both = e ∙ f in cc) | inr (inr k) ↦ client (Deliver c) j refl k e ]),
      (
        (λ j h e. elim h [ inl f ↦ absurd (let both = e ∙ f in cc) | inr k ↦ client (Acknowledge c) j refl k e ]),
        ((λ j h e. client (Join c) j refl h e), at_clients_differ inserts texts (suc c) clients letters),
      ),
    )
    (λ i j h k e. (let r = is_edit inserts texts c (length x.list) i h in elim k [
      | inl f ↦ absurd (let both = sym r.1 ∙ (e ∙ f) in cc)
      | inr (inl f) ↦ absurd (let both = sym r.1 ∙ (e ∙ f) in cc)
      | inr (inr (inl f)) ↦ absurd (let both = sym r.1 ∙ (e ∙ f) in cc)
      | inr (inr (inr later)) ↦ client i j (ap machine_of r.1) later e
    ]))

taker_or : ℕ → Instr → ℕ
taker_or d (Edit c op) = d
taker_or d (Take c) = c
taker_or d (Deliver c) = d
taker_or d (Acknowledge c) = d
taker_or d (Join c) = d
taker_or d (Read c) = d
taker_or d ReadServer = d

taker : (c d : ℕ) → Take c ≡ Take d → c ≡ d
unfolding taker_or
taker c d e = ap (taker_or c) e

takes_differ : (c : ℕ) (clients : List Client) → Pairwise (λ a b. a ≡ b → ⊥) (takes c clients)
takes_differ c [] = tt
takes_differ c (x ∷ clients) = (λ j h e. (let r = takes_next (suc c) clients j h in let le = r.1 in let n : c ≡ r.0 = taker c r.0 (e ∙ r.2) in absurd (omega (arith, le, n))), takes_differ (suc c) clients)

pub candidates_differ : (inserts : ℕ) (texts : List (List ℕ)) (s : State) → HaveLetters texts → Pairwise (λ a b. a ≡ b → ⊥) (candidates inserts texts s)
candidates_differ inserts texts s letters =
    pairwise_append (λ a b. a ≡ b → ⊥) (at_clients inserts texts 0 s.clients) (takes 0 s.clients) (at_clients_differ inserts texts 0 s.clients letters) (takes_differ 0 s.clients)
    (λ i j h k e. (let r = at_clients_next inserts texts 0 s.clients i letters h in let take = takes_next 0 s.clients j k in absurd (let both = sym r.3 ∙ ap machine_of (e ∙ take.2) in cc)))

-- ---- all of them

-- those of one client
abbrev own : ℕ → List (List ℕ) → ℕ → Client → List Instr
own inserts texts c x = edits inserts texts c (length x.list) ++ Deliver c ∷ Acknowledge c ∷ Join c ∷ []

own_in : (inserts : ℕ) (texts : List (List ℕ)) (c : ℕ) (x : Client) (clients : List Client) (i : Instr) → IsIn i (own inserts texts c x) → IsIn i (at_clients inserts texts c (x ∷ clients))
own_in inserts texts c x clients i h = elim (in_cases i (edits inserts texts c (length x.list)) _ h) [
  | inl edit ↦ in_left i (edits inserts texts c (length x.list)) _ edit
  | inr (inl e) ↦ in_right i (edits inserts texts c (length x.list)) _ (inl e)
  | inr (inr (inl e)) ↦ in_right i (edits inserts texts c (length x.list)) _ (inr (inl e))
  | inr (inr (inr (inl e))) ↦ in_right i (edits inserts texts c (length x.list)) _ (inr (inr (inl e)))
  | inr (inr (inr (inr never))) ↦ absurd never
]

at_clients_in : (inserts : ℕ) (texts : List (List ℕ)) (c k : ℕ) (clients : List Client) (x : Client) (i : Instr) → slice_get clients k ≡ Some x → IsIn i (own inserts texts (c + k) x) → IsIn i (at_clients inserts texts c clients)
at_clients_in inserts texts c k [] x i at h = absurd (cc)
at_clients_in inserts texts c zero (y ∷ clients) x i at h =
    let here : c + 0 ≡ c = omega arith in
    own_in inserts texts c y clients i (subst (λ (z : Client). IsIn i (own inserts texts c z)) (sym (same_Some y x at)) (subst (λ (n : ℕ). IsIn i (own inserts texts n x)) here h))
at_clients_in inserts texts c (suc k) (y ∷ clients) x i at h =
    let there : c + suc k ≡ suc c + k = omega arith in
    in_right i (edits inserts texts c (length y.list)) _ (inr (inr (inr (at_clients_in inserts texts (suc c) k clients x i at (subst (λ (n : ℕ). IsIn i (own inserts texts n x)) there h)))))

takes_in : (c k : ℕ) (clients : List Client) (x : Client) → slice_get clients k ≡ Some x → IsIn (Take (c + k)) (takes c clients)
takes_in c k [] x at = absurd (cc)
takes_in c zero (y ∷ clients) x at = let here : c + 0 ≡ c = omega arith in inl (ap Take here)
takes_in c (suc k) (y ∷ clients) x at = let there : c + suc k ≡ suc c + k = omega arith in inr (subst (λ (n : ℕ). IsIn (Take n) (takes (suc c) clients)) (sym there) (takes_in (suc c) k clients x at))

edits_in : (inserts : ℕ) (texts : List (List ℕ)) (c count : ℕ) (op : Operation ℕ) → op.base ≡ count → IsNext inserts texts (Edit c op) → IsIn (Edit c op) (edits inserts texts c count)
edits_in inserts [] c count op base next = absurd next
edits_in inserts (text ∷ texts) c count op base next =
    in_map (Edit c) op (forms text inserts count) (forms_all text inserts count op base (subst (λ (n : ℕ). IsListed text 0 n inserts op.image) base next))

at_client_in : (inserts : ℕ) (texts : List (List ℕ)) (s : State) (c : ℕ) (x : Client) (i : Instr) → slice_get s.clients c ≡ Some x → IsIn i (own inserts texts c x) → IsIn i (candidates inserts texts s)
at_client_in inserts texts s c x i at h =
    in_left i (at_clients inserts texts 0 s.clients) (takes 0 s.clients) (at_clients_in inserts texts 0 c s.clients x i at (subst (λ (n : ℕ). IsIn i (own inserts texts n x)) (omega arith) h))

pub candidates_in : (inserts : ℕ) (texts : List (List ℕ)) (s : State) (i : Instr) (t : State) (a : Option Shown) → step s i ≡ Performed t a → IsNext inserts texts i → IsIn i (candidates inserts texts s)
candidates_in inserts texts s (Edit c op) t a e next =
    by_edit (λ o. o ≡ Performed t a → IsIn (Edit c op) (candidates inserts texts s)) (λ r f. absurd (cc)) s c op
    (λ x at below on base few f. at_client_in inserts texts s c x (Edit c op) at (in_left (Edit c op) (edits inserts texts c (length x.list)) _ (edits_in inserts texts c (length x.list) op base next))) e
candidates_in inserts texts s (Take c) t a e next =
    by_take (λ o. o ≡ Performed t a → IsIn (Take c) (candidates inserts texts s)) (λ r f. absurd (cc)) s c
    (λ x m at below on sent f. in_right (Take c) (at_clients inserts texts 0 s.clients) (takes 0 s.clients) (subst (λ (n : ℕ). IsIn (Take n) (takes 0 s.clients)) (omega arith) (takes_in 0 c s.clients x at))) e
candidates_in inserts texts s (Deliver c) t a e next =
    by_deliver (λ o. o ≡ Performed t a → IsIn (Deliver c) (candidates inserts texts s)) (λ r f. absurd (cc)) s c
    (λ x h at below on head other f. at_client_in inserts texts s c x (Deliver c) at (in_right (Deliver c) (edits inserts texts c (length x.list)) _ (inl refl))) e
candidates_in inserts texts s (Acknowledge c) t a e next =
    by_acknowledge (λ o. o ≡ Performed t a → IsIn (Acknowledge c) (candidates inserts texts s)) (λ r f. absurd (cc)) s c
    (λ x h at below on head own f. at_client_in inserts texts s c x (Acknowledge c) at (in_right (Acknowledge c) (edits inserts texts c (length x.list)) _ (inr (inl refl)))) e
candidates_in inserts texts s (Join c) t a e next =
    by_join (λ o. o ≡ Performed t a → IsIn (Join c) (candidates inserts texts s)) (λ r f. absurd (cc)) s c
    (λ x at below off f. at_client_in inserts texts s c x (Join c) at (in_right (Join c) (edits inserts texts c (length x.list)) _ (inr (inr (inl refl))))) e
candidates_in inserts [] s (Read c) t a e next = absurd next
candidates_in inserts (text ∷ texts) s (Read c) t a e next = absurd next
candidates_in inserts [] s ReadServer t a e next = absurd next
candidates_in inserts (text ∷ texts) s ReadServer t a e next = absurd next

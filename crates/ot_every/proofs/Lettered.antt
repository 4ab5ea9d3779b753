-- The listing with other letters: each session with its letters mapped.
use Rattle.std.proofs.Common.{◌≡◌, ℕ, zero, suc, List, [], ◌∷◌, ◌++◌, length, map, drop, refl, sym, ap, ◌∙◌, Option, Some, None, Bool, true, false}
use Rattle.std.specs.Prelude.{◌&&◌, not, nat_lt, if◌then◌else◌, slice_get, option_map, is_none, is_some}
use Rattle.std.specs.List.{filter, flat_map, list_all}
use Rattle.std.proofs.lemmas.List.{map-append, length-map, drop-map}
use Rattle.std.proofs.lemmas.Option.{slice_get-map}
use Rattle.ot_operation.specs.Operation.{Item, Old, New}
use Rattle.ot_codes.specs.Shape.{mapped_item, mapped}
use Rattle.ot_isa.specs.declared.instruction.Instr.{Instr}
use Rattle.ot_isa.specs.declared.instruction.Instr.TheVariants.{Edit, Take, Deliver, Acknowledge, Join, Read, ReadServer}
use Rattle.ot_model.specs.Table.{Phase, NotJoined, Synchronized, AwaitingConfirm, AwaitingWithBuffer, Client, State, Outcome, Performed, Refused, NoRow, step}
use Rattle.ot_model.specs.Orders.{ServerMachine}
use Rattle.ot_letters.specs.Letters.{with_letter, mapped_entry, mapped_message, mapped_instr, mapped_instrs, mapped_phase, mapped_client, mapped_state, mapped_outcome}
use Rattle.ot_letters.proofs.Runs.{is_at-mapped}
use Rattle.ot_letters.proofs.Steps.{step-mapped}
use Rattle.ot_every.specs.Forms.{with_insertion, images, forms}
use Rattle.ot_every.specs.Listing.{machine_of, shares, has_client, is_behind, is_there, Earlier, comes_late, edits, at_clients, takes, candidates, texts_after, is_synchronized, is_empty, is_settled, sessions_from}
use Rattle.ot_every.proofs.Listed.{behind}

-- ---- lists

map_swap : {A B C D : Type 0} (g : B → D) (h : A → B) (g' : A → C) (h' : C → D) (xs : List A) → ((x : A) → g (h x) ≡ h' (g' x)) → map g (map h xs) ≡ map h' (map g' xs)
map_swap g h g' h' [] e = refl
map_swap {D = D} g h g' h' (x ∷ xs) e = ap (λ (d : D). d ∷ map g (map h xs)) (e x) ∙ ap (λ (ds : List D). h' (g' x) ∷ ds) (map_swap g h g' h' xs e)

filter_mapped : {A B : Type 0} (g : A → B) (p : B → Bool) (q : A → Bool) (xs : List A) → ((x : A) → p (g x) ≡ q x) → filter p (map g xs) ≡ map g (filter q xs)
filter_mapped g p q [] e = refl
filter_mapped {B = B} g p q (x ∷ xs) e = go (filter_mapped g p q xs e) (q x) refl
  where
    go : filter p (map g xs) ≡ map g (filter q xs) → (b : Bool) → q x ≡ b → filter p (g x ∷ map g xs) ≡ map g (filter q (x ∷ xs))
    go rest true is = rw (e x, is) (ap (λ (ys : List B). g x ∷ ys) rest)
    go rest false is = rw (e x, is) rest

flat_mapped : {A B C D : Type 0} (g : A → B) (h : C → D) (F : A → List C) (G : B → List D) (xs : List A) → ((x : A) → G (g x) ≡ map h (F x)) → flat_map G (map g xs) ≡ map h (flat_map F xs)
flat_mapped g h F G [] e = refl
flat_mapped {D = D} g h F G (x ∷ xs) e =
    ap (λ (ds : List D). ds ++ flat_map G (map g xs)) (e x) ∙ ap (λ (ds : List D). map h (F x) ++ ds) (flat_mapped g h F G xs e) ∙ sym (map-append h (F x) (flat_map F xs))

all_mapped : {A B : Type 0} (g : A → B) (p : B → Bool) (q : A → Bool) (xs : List A) → ((x : A) → p (g x) ≡ q x) → list_all p (map g xs) ≡ list_all q xs
all_mapped g p q [] e = refl
all_mapped g p q (x ∷ xs) e = rw (e x, all_mapped g p q xs e) refl

-- ---- forms

module _ (f : ℕ → ℕ) where
  pub text_mapped : (text : List ℕ) (image : List (Item ℕ)) → map (mapped_item f) (map New text ++ image) ≡ map New (map f text) ++ map (mapped_item f) image
  text_mapped [] image = refl
  text_mapped (x ∷ text) image = ap (λ (im : List (Item ℕ)). New (f x) ∷ im) (text_mapped text image)

  with_insertion_mapped : (text : List ℕ) (F G : ℕ → List (List (Item ℕ))) (most : ℕ) → ((m : ℕ) → map (map (mapped_item f)) (F m) ≡ G m) → map (map (mapped_item f)) (with_insertion text F most) ≡ with_insertion (map f text) G most
  with_insertion_mapped text F G zero e = e 0
  with_insertion_mapped text F G (suc most) e =
      map-append (map (mapped_item f)) (F (suc most)) (map (λ image. map New text ++ image) (F most))
      ∙ ap (λ (ims : List (List (Item ℕ))). ims ++ map (map (mapped_item f)) (map (λ image. map New text ++ image) (F most))) (e (suc most))
      ∙ ap (λ (ims : List (List (Item ℕ))). G (suc most) ++ ims)
      (map_swap (map (mapped_item f)) (λ image. map New text ++ image) (map (mapped_item f)) (λ image. map New (map f text) ++ image) (F most) (text_mapped text)
      ∙ ap (map (λ image. map New (map f text) ++ image)) (e most))

  images_mapped : (text : List ℕ) (from count most : ℕ) → map (map (mapped_item f)) (images text from count most) ≡ images (map f text) from count most
  images_mapped text from zero most = refl
  images_mapped text from (suc count) most =
      let W = with_insertion text (images text (suc from) count) most in
      let I = images text (suc from) count most in
      map-append (map (mapped_item f)) (map (λ image. Old from ∷ image) W) I
      ∙ ap (λ (ims : List (List (Item ℕ))). ims ++ map (map (mapped_item f)) I)
      (map_swap (map (mapped_item f)) (λ image. Old from ∷ image) (map (mapped_item f)) (λ image. Old from ∷ image) W (λ image. refl)
      ∙ ap (map (λ image. Old from ∷ image)) (with_insertion_mapped text (images text (suc from) count) (images (map f text) (suc from) count) most (images_mapped text (suc from) count)))
      ∙ ap (λ (ims : List (List (Item ℕ))). map (λ image. Old from ∷ image) (with_insertion (map f text) (images (map f text) (suc from) count) most) ++ ims) (images_mapped text (suc from) count most)

  forms_mapped : (text : List ℕ) (most count : ℕ) → map (mapped f) (forms text most count) ≡ forms (map f text) most count
  forms_mapped text most count =
      map_swap (mapped f) (λ image. record { base = count; image = image }) (map (mapped_item f)) (λ image. record { base = count; image = image }) (with_insertion text (images text 0 count) most) (λ image. refl)
      ∙ ap (map (λ image. record { base = count; image = image })) (with_insertion_mapped text (images text 0 count) (images (map f text) 0 count) most (images_mapped text 0 count))

  -- ---- what comes late

  machine_mapped : (i : Instr) → machine_of (mapped_instr f i) ≡ machine_of i
  machine_mapped (Edit c op) = refl
  machine_mapped (Take c) = refl
  machine_mapped (Deliver c) = refl
  machine_mapped (Acknowledge c) = refl
  machine_mapped (Join c) = refl
  machine_mapped (Read c) = refl
  machine_mapped ReadServer = refl

  shares_mapped : (i j : Instr) → shares (mapped_instr f i) (mapped_instr f j) ≡ shares i j
  shares_mapped i j = rw (machine_mapped i, is_at-mapped f (machine_of i) j, is_at-mapped f ServerMachine i, is_at-mapped f ServerMachine j) refl

  behind_same : (s : State) (x : Client) → is_behind (mapped_state f s) (mapped_client f x) ≡ is_behind s x
  behind_same s x = ap (nat_lt x.revision) (length-map s.log (mapped_entry f))

  has_mapped : (o : Option Client) (p q : Client → Bool) → ((x : Client) → p (mapped_client f x) ≡ q x) → has_client (option_map (mapped_client f) o) p ≡ has_client o q
  has_mapped None p q e = refl
  has_mapped (Some x) p q e = e x

  client_mapped : (s : State) (c : ℕ) (p q : Client → Bool) → ((x : Client) → p (mapped_client f x) ≡ q x) → has_client (slice_get (mapped_state f s).clients c) p ≡ has_client (slice_get s.clients c) q
  client_mapped s c p q e = ap (λ o. has_client o p) (slice_get-map (mapped_client f) s.clients c) ∙ has_mapped (slice_get s.clients c) p q e

  some_mapped : {A B : Type 0} (g : A → B) (o : Option A) → is_some (option_map g o) ≡ is_some o
  some_mapped g None = refl
  some_mapped g (Some x) = refl

  none_mapped : {A B : Type 0} (g : A → B) (o : Option A) → is_none (option_map g o) ≡ is_none o
  none_mapped g None = refl
  none_mapped g (Some x) = refl

  there_mapped : (s : State) (i : Instr) → is_there (mapped_state f s) (mapped_instr f i) ≡ is_there s i
  there_mapped s (Edit c op) = refl
  there_mapped s (Take c) = client_mapped s c (λ x. is_some x.message) (λ x. is_some x.message) (λ x. some_mapped (mapped_message f) x.message)
  there_mapped s (Deliver c) = client_mapped s c (is_behind (mapped_state f s)) (is_behind s) (behind_same s)
  there_mapped s (Acknowledge c) = client_mapped s c (is_behind (mapped_state f s)) (is_behind s) (behind_same s)
  there_mapped s (Join c) = refl
  there_mapped s (Read c) = refl
  there_mapped s ReadServer = refl

  abbrev pub mapped_path : List Earlier → List Earlier
  mapped_path path = map (λ (e : Earlier). record { before = mapped_state f e.before; instr = mapped_instr f e.instr }) path

  late_mapped : (path : List Earlier) (i : Instr) → comes_late (mapped_path path) (mapped_instr f i) ≡ comes_late path i
  late_mapped [] i = refl
  late_mapped (e ∷ path) i = rw (shares_mapped i e.instr, there_mapped e.before i, machine_mapped i, machine_mapped e.instr, late_mapped path i) refl

  -- ---- candidates

  edits_mapped : (inserts : ℕ) (texts : List (List ℕ)) (c count : ℕ) → edits inserts (map (map f) texts) c count ≡ map (mapped_instr f) (edits inserts texts c count)
  edits_mapped inserts [] c count = refl
  edits_mapped inserts (text ∷ texts) c count =
      ap (map (Edit c)) (sym (forms_mapped text inserts count)) ∙ sym (map_swap (mapped_instr f) (Edit c) (mapped f) (Edit c) (forms text inserts count) (λ op. refl))

  at_clients_mapped : (inserts : ℕ) (texts : List (List ℕ)) (c : ℕ) (clients : List Client) → at_clients inserts (map (map f) texts) c (map (mapped_client f) clients) ≡ map (mapped_instr f) (at_clients inserts texts c clients)
  at_clients_mapped inserts texts c [] = refl
  at_clients_mapped inserts texts c (x ∷ clients) =
      let later = at_clients inserts texts (suc c) clients in
      let long : length (mapped_client f x).list ≡ length x.list = length-map x.list (with_letter f) in
      ap (λ (n : ℕ). edits inserts (map (map f) texts) c n ++ Deliver c ∷ Acknowledge c ∷ Join c ∷ at_clients inserts (map (map f) texts) (suc c) (map (mapped_client f) clients)) long
      ∙ ap (λ (is : List Instr). is ++ Deliver c ∷ Acknowledge c ∷ Join c ∷ at_clients inserts (map (map f) texts) (suc c) (map (mapped_client f) clients)) (edits_mapped inserts texts c (length x.list))
      ∙ ap (λ (is : List Instr). map (mapped_instr f) (edits inserts texts c (length x.list)) ++ Deliver c ∷ Acknowledge c ∷ Join c ∷ is) (at_clients_mapped inserts texts (suc c) clients)
      ∙ sym (map-append (mapped_instr f) (edits inserts texts c (length x.list)) (Deliver c ∷ Acknowledge c ∷ Join c ∷ later))

  takes_mapped : (c : ℕ) (clients : List Client) → takes c (map (mapped_client f) clients) ≡ map (mapped_instr f) (takes c clients)
  takes_mapped c [] = refl
  takes_mapped c (x ∷ clients) = ap (λ (is : List Instr). Take c ∷ is) (takes_mapped (suc c) clients)

  candidates_mapped : (inserts : ℕ) (texts : List (List ℕ)) (s : State) → candidates inserts (map (map f) texts) (mapped_state f s) ≡ map (mapped_instr f) (candidates inserts texts s)
  candidates_mapped inserts texts s =
      ap (λ (is : List Instr). is ++ takes 0 (map (mapped_client f) s.clients)) (at_clients_mapped inserts texts 0 s.clients)
      ∙ ap (λ (is : List Instr). map (mapped_instr f) (at_clients inserts texts 0 s.clients) ++ is) (takes_mapped 0 s.clients)
      ∙ sym (map-append (mapped_instr f) (at_clients inserts texts 0 s.clients) (takes 0 s.clients))

  -- ---- sessions

  synchronized_mapped : (phase : Phase) → is_synchronized (mapped_phase f phase) ≡ is_synchronized phase
  synchronized_mapped NotJoined = refl
  synchronized_mapped Synchronized = refl
  synchronized_mapped (AwaitingConfirm o) = refl
  synchronized_mapped (AwaitingWithBuffer o b) = refl

  empty_mapped : {A B : Type 0} (g : A → B) (xs : List A) → is_empty (map g xs) ≡ is_empty xs
  empty_mapped g [] = refl
  empty_mapped g (x ∷ xs) = refl

  pub settled_mapped : (s : State) → is_settled (mapped_state f s) ≡ is_settled s
  settled_mapped s =
      all_mapped (mapped_client f) (λ x. is_synchronized x.phase && (is_none x.message && is_empty (drop x.revision (map (mapped_entry f) s.log))))
      (λ x. is_synchronized x.phase && (is_none x.message && is_empty (drop x.revision s.log))) s.clients
      (λ x. (
      let rest : is_empty (drop x.revision (map (mapped_entry f) s.log)) ≡ is_empty (drop x.revision s.log) = ap is_empty (drop-map (mapped_entry f) x.revision s.log) ∙ empty_mapped (mapped_entry f) (drop x.revision s.log) in
      rw (synchronized_mapped x.phase, none_mapped (mapped_message f) x.message, rest) refl
      ))

  texts_after_mapped : (i : Instr) (texts : List (List ℕ)) → texts_after (mapped_instr f i) (map (map f) texts) ≡ map (map f) (texts_after i texts)
  texts_after_mapped (Edit c op) [] = refl
  texts_after_mapped (Edit c op) (text ∷ texts) = refl
  texts_after_mapped (Take c) texts = refl
  texts_after_mapped (Deliver c) texts = refl
  texts_after_mapped (Acknowledge c) texts = refl
  texts_after_mapped (Join c) texts = refl
  texts_after_mapped (Read c) texts = refl
  texts_after_mapped ReadServer texts = refl

  ends_mapped : (b : Bool) → (if b then [] ∷ [] else []) ≡ map (mapped_instrs f) (if b then [] ∷ [] else [])
  ends_mapped true = refl
  ends_mapped false = refl

  pub sessions_mapped : (inserts count : ℕ) (texts : List (List ℕ)) (path : List Earlier) (s : State)
      → sessions_from inserts count (map (map f) texts) (mapped_path path) (mapped_state f s) ≡ map (mapped_instrs f) (sessions_from inserts count texts path s)
  sessions_mapped inserts zero texts path s =
      rw (empty_mapped (map f) texts, settled_mapped s) (ends_mapped (is_empty texts && is_settled s))
  sessions_mapped inserts (suc count) texts path s =
      let kept = filter (λ i. not (comes_late path i)) (candidates inserts texts s) in
      let same : filter (λ i. not (comes_late (mapped_path path) i)) (candidates inserts (map (map f) texts) (mapped_state f s)) ≡ map (mapped_instr f) kept =
      ap (filter (λ i. not (comes_late (mapped_path path) i))) (candidates_mapped inserts texts s)
      ∙ filter_mapped (mapped_instr f) (λ i. not (comes_late (mapped_path path) i)) (λ i. not (comes_late path i)) (candidates inserts texts s) (λ i. ap not (late_mapped path i)) in
      let go : Instr → List (List Instr) = λ i. behind inserts count (map (map f) texts) (mapped_path path) (mapped_state f s) i (step (mapped_state f s) i) in
      ap (flat_map go) same
      ∙ flat_mapped (mapped_instr f) (mapped_instrs f) (λ i. behind inserts count texts path s i (step s i)) go kept
      (λ i. ap (behind inserts count (map (map f) texts) (mapped_path path) (mapped_state f s) (mapped_instr f i)) (step-mapped f s i)
      ∙ one i (λ t. sessions_mapped inserts count (texts_after i texts) (record { before = s; instr = i } ∷ path) t) (step s i))
    where
      one : (i : Instr)
          → ((t : State) → sessions_from inserts count (map (map f) (texts_after i texts)) (mapped_path (record { before = s; instr = i } ∷ path)) (mapped_state f t) ≡ map (mapped_instrs f) (sessions_from inserts count (texts_after i texts) (record { before = s; instr = i } ∷ path) t))
          → (o : Outcome) → behind inserts count (map (map f) texts) (mapped_path path) (mapped_state f s) (mapped_instr f i) (mapped_outcome f o) ≡ map (mapped_instrs f) (behind inserts count texts path s i o)
      one i rest (Performed t a) =
          ap (λ (later : List (List ℕ)). map (λ is. mapped_instr f i ∷ is) (sessions_from inserts count later (mapped_path (record { before = s; instr = i } ∷ path)) (mapped_state f t))) (texts_after_mapped i texts)
          ∙ ap (map (λ is. mapped_instr f i ∷ is)) (rest t)
          ∙ sym (map_swap (mapped_instrs f) (λ is. i ∷ is) (mapped_instrs f) (λ is. mapped_instr f i ∷ is) (sessions_from inserts count (texts_after i texts) (record { before = s; instr = i } ∷ path) t) (λ is. refl))
      one i rest (Refused r) = refl
      one i rest NoRow = refl

-- The opening and the reads keep one order in all lists.
use Rattle.std.proofs.Common.{◌≡◌, ℕ, suc, ◌+◌, ◌<◌, ◌≤◌, List, [], ◌∷◌, length, take, drop, refl, sym, ap, ◌∙◌, subst, arith, inl, inr, Some, true}
use Rattle.std.proofs.lemmas.List.{append-nil, take_all}
use Rattle.std.proofs.lemmas.Option.{slice_get_within}
use Rattle.std.specs.Prelude.{◌⊎◌, slice_get}
use Rattle.ot_isa.specs.declared.elements.Tag.{Tag}
use Rattle.ot_isa.specs.declared.elements.Tagged.{Tagged}
use Rattle.ot_model.specs.Table.{is_joined, Client, State, start_list, opening}
use Rattle.ot_model.specs.Sound.{apply_entries, times, IsSoundFrom}
use Rattle.ot_model.proofs.Algebra.{AlgebraLaws}
use Rattle.ot_model.proofs.Vertices.{InPath, operations, InFirst, InSecond, IsVertex, Seen, IsMember, IsSeenSound, IsOrdered, OrderLaws}
use Rattle.ot_model.proofs.Tags.{allowance-le}
use Rattle.ot_model.proofs.Paths.{InPath_reached, reached-operations}
use Rattle.ot_model.proofs.Known.{document_has}
use Rattle.ot_model.proofs.Once.{once_self, start_times}
use Rattle.ot_model.proofs.Steps.{each_opening}
use Rattle.ot_model.proofs.Ordered.{Grows, seen_grows, ordered_from}

start_once : (text : List ℕ) (t : Tag) → times t (start_list text) ≤ 1
start_once text t = let sum = start_times t 0 text in let cap = allowance-le 65535 (0 + length text) t in omega arith

opening_member : (clients present : ℕ) (text : List ℕ) (a : ℕ) (u : List Tagged) → IsMember (start_list text) (opening clients present text) [] a u → u ≡ start_list text
opening_member clients present text a u (inl (inl server)) = server.1
opening_member clients present text a u (inl (inr vertex)) =
    absurd (each_opening (λ c z. InFirst c u (apply_entries (start_list text) (take z.revision [])) (drop z.revision []) z.phase ⊎ InSecond c u (apply_entries (start_list text) (take z.revision [])) (drop z.revision []) z.phase → ⊥) clients present text
    (λ c on. elim on [ inl never ↦ never | inr never ↦ never ]) (λ c on. elim on [ inl never ↦ never | inr never ↦ never ]) a vertex.client vertex.at vertex.path)
opening_member clients present text a u (inr past) = absurd past.1

pub opening_ordered : (clients present : ℕ) (text : List ℕ) → IsOrdered (start_list text) (opening clients present text) []
opening_ordered clients present text =
    record {
      sound = λ u on. absurd on;
      consistent = λ a b u v on_u on_v. rw (opening_member clients present text a u on_u, opening_member clients present text b v on_v) (once_self (start_list text) (start_once text));
    }

abbrev pub one_on : State → State
one_on s = record { log = s.log; server = s.server; clients = s.clients; steps = suc s.steps }

one_on_grows : (s : State) → Grows s (one_on s)
one_on_grows s =
    record {
      more = [];
      log = sym (append-nil s.log);
      on = λ c x at. (x, at, omega arith, omega arith);
      back = λ c y at. (y, at, omega arith);
    }

one_on_vertex : (start : List Tagged) (s : State) (a : ℕ) (w : List Tagged) → IsVertex start (one_on s) a w → (k : ℕ) × IsVertex start s k w
one_on_vertex start s a w (inl server) = (a, inl server)
one_on_vertex start s a w (inr vertex) = (a, inr (record { client = vertex.client; at = vertex.at; path = vertex.path }))

module _ (laws : AlgebraLaws) (order : OrderLaws) where
  pub ordered_read : (start : List Tagged) (text : List ℕ) (s : State) (seen : List Seen) (c : ℕ) (x : Client) → IsSoundFrom start text (one_on s) → slice_get s.clients c ≡ Some x → is_joined x.phase ≡ true → IsOrdered start s seen → IsOrdered start (one_on s) (record { owner = c; level = x.revision; list = x.list } ∷ seen)
  ordered_read start text s seen c x sound' at on ordered = ordered_from laws order start text s (one_on s) seen c x sound' at on (one_on_grows s) ordered (one_on_vertex start s)

  server_member : (start : List Tagged) (text : List ℕ) (s : State) (seen : List Seen) (a : ℕ) (u : List Tagged) → IsSoundFrom start text s → IsMember start (one_on s) (record { owner = 65535; level = length s.log; list = s.server } ∷ seen) a u → (k : ℕ) × IsMember start s seen k u
  server_member start text s seen a u sound (inl vertex) = let w = one_on_vertex start s a u vertex in (w.0, inl w.1)
  server_member start text s seen a u sound (inr past) = elim past.1 [
    | inl is ↦
        let e : s.server ≡ u = ap (λ (v : Seen). v.list) is ∙ past.3 in
        (65535, inl (inl (refl, subst (λ (w : List Tagged). InPath w start (operations s.log)) (reached-operations start s.log ∙ sym sound.server ∙ e) (InPath_reached start (operations s.log)))))
    | inr old ↦ (a, inr (past.0, old, past.2, past.3))
  ]

  pub ordered_read_server : (start : List Tagged) (text : List ℕ) (s : State) (seen : List Seen) → IsSoundFrom start text s → IsOrdered start s seen → IsOrdered start (one_on s) (record { owner = 65535; level = length s.log; list = s.server } ∷ seen)
  ordered_read_server start text s seen sound ordered =
      record {
        sound = λ u on. elim on [
          | inl is ↦ subst (λ (v : Seen). IsSeenSound start (one_on s) v) is (record {
            known = λ t h. inr (rw (take_all (length s.log) s.log (omega arith)) (document_has laws order start s.log t sound.fit (rw sound.server at h)));
            level = omega arith;
            behind = λ y at. let inside : 65535 < length s.clients = slice_get_within s.clients 65535 y at in let few = sound.few in absurd (omega arith);
          })
          | inr old ↦ seen_grows start s (one_on s) u (one_on_grows s) (ordered.sound u old)
        ];
        consistent = λ a b u v on_u on_v.
            let m = server_member start text s seen a u sound on_u in
            let n = server_member start text s seen b v sound on_v in
            ordered.consistent m.0 n.0 u v m.1 n.1;
      }

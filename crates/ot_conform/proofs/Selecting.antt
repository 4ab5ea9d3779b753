-- Some of the lines of `steps` agree with those that are due, and pass over the others.
use Rattle.std.proofs.Common.{◌≡◌, ℕ, zero, suc, ◌+◌, ◌<◌, ◌≤◌, ◌==◌, List, [], ◌∷◌, ◌++◌, length, drop, take, Bool, true, false, nat_lt, Option, Some, None, refl, sym, ap, ◌∙◌, subst, arith, inl, inr}
use Rattle.std.proofs.lemmas.Bool.{eq-eqb, le-ltb, lt-ltb, ltb-false, ne_eqb}
use Rattle.std.proofs.lemmas.Option.{same_Some}
use Rattle.std.specs.List.{AllByRecursion}
use Rattle.std.specs.Prelude.{◌⊎◌, ◌||◌, ◌&&◌, slice_get, not, option_map, codes, is_some, if◌then◌else◌}
use Rattle.serde_json.specs.Data.{Data, number, unsigned}
use Rattle.serde_json.specs.Find.{get}
use Rattle.ot_json.specs.Fields.{number_at}
use Rattle.ot_isa.specs.Program.{Program}
use Rattle.ot_isa.specs.declared.instruction.Instr.{Instr}
use Rattle.ot_isa.specs.declared.instruction.Instr.TheVariants.{Edit, Take, Deliver, Acknowledge, Join, Read, ReadServer}
use Rattle.ot_model.specs.declared.shown.Refusal.{Refusal}
use Rattle.ot_model.specs.declared.shown.Shown.{Shown}
use Rattle.ot_model.specs.Table.{Outcome as Stepped, Performed, Refused, NoRow, Place, State, begin, run, step, with_shown}
use Rattle.ot_model.specs.Runs.{opening_of, place_at}
use Rattle.ot_machine.specs.Ended.{reached, IsStop}
use Rattle.ot_steps.specs.Lines.{Line}
use Rattle.ot_machine.specs.Effects.{sends}
use Rattle.ot_steps.specs.Steps.{applies, end_line, is_quiet, last_lines, lines_from, opening_line, run_lines, step_line, stop_at, stop_line}
use Rattle.ot_steps.specs.Text.{Name, end_text}
use Rattle.ot_steps.proofs.Running.{reached_within}
use Rattle.ot_conform.specs.Differences.{Ahead, Wanted, Limit, Outcome, Conforms, Stopped, ahead_from, ending, from_opening, is_limit, outcome, over, stopping}
use Rattle.ot_conform.specs.Due.{DueLine, end_due, opening_due, step_due, stop_due}
use Rattle.ot_conform.specs.Keys.{is_told}
use Rattle.ot_conform.specs.Laws.{ChosenStepsConform, IsOfTable, Say, Says, SaysLine, chosen, data_of, has_last, is_last, outcome_at, outcome_of_chosen}
use Rattle.ot_conform.specs.Passed.{is_end, is_past, is_stop, passes, passes_step, passes_stop}
use Rattle.ot_conform.specs.Ports.{PortLine, Told, OtherForm, NoText, Nothing, is_opening_line, is_zero}
use Rattle.ot_conform.specs.Received.{receives}
use Rattle.ot_steps.specs.declared.key.Key.TheVariants as key
use Rattle.ot_conform.proofs.Conforming.{Shows, all_shown, is_the_opening, refused_by_table, says_agrees, step_shown, stop_agrees}
use Rattle.ot_conform.proofs.Outcomes.{ahead_past, ahead_refused, goes_on, never, nothing_left, over_agrees, over_passes}

-- ---- what is chosen

pub chosen_all : (P : Line → Type 0) (which : List Bool) (lines : List Line) → AllByRecursion P lines → AllByRecursion P (chosen which lines)
chosen_all P [] lines all = tt
chosen_all P (b ∷ which) [] all = tt
chosen_all P (true ∷ which) (line ∷ lines) all = (all.0, chosen_all P which lines all.1)
chosen_all P (false ∷ which) (line ∷ lines) all = chosen_all P which lines all.1

none_chosen : (which : List Bool) → chosen which [] ≡ []
none_chosen [] = refl
none_chosen (b ∷ which) = refl

all_both : (P : Line → Type 0) (xs ys : List Line) → AllByRecursion P xs → AllByRecursion P ys → AllByRecursion P (xs ++ ys)
all_both P [] ys first second = second
all_both P (x ∷ xs) ys first second = (first.0, all_both P xs ys first.1 second)

all_from : (P Q : Line → Type 0) → ((line : Line) → P line → Q line) → (lines : List Line) → AllByRecursion P lines → AllByRecursion Q lines
all_from P Q from [] all = tt
all_from P Q from (line ∷ lines) all = (from line all.0, all_from P Q from lines all.1)

-- of lines that a port says, what holds of each holds of the first
first_holds : (P : Line → Type 0) (R : PortLine → Type 0) → ((line : Line) (port : PortLine) → P line → SaysLine line port → R port)
    → (lines : List Line) (port : PortLine) (ports : List PortLine) → AllByRecursion P lines → Say lines (port ∷ ports) → R port
first_holds P R holds [] port ports all say = absurd say
first_holds P R holds (line ∷ lines) port ports all say = holds line port all.0 say.0

-- ---- what a line says

told_at : (line : Line) (d : Data) → Says line d → number_at (codes "at") d ≡ Some line.at
told_at line d says = let at : get (codes "at") d ≡ Some (number (unsigned line.at)) = says.under key.At in rw at refl

told_stop : (line : Line) (d : Data) → Says line d → is_stop d ≡ is_some line.stopped
told_stop line d says = ap is_told (says.under key.Stopped) ∙ stop_agrees line.stopped

told_end : (line : Line) (d : Data) → Says line d → is_end d ≡ is_some line.quiet
told_end line d says = ap is_told (says.under key.End) ∙ go line.quiet
  where
    go : (quiet : Option Bool) → is_told (option_map data_of (option_map (λ q. Name (end_text q)) quiet)) ≡ is_some quiet
    go None = refl
    go (Some q) = refl

-- ---- what stands behind the instruction that leads to a place

abbrev Behind : ℕ → Line → Type 0
Behind at line = (at < line.at) ⊎ ((at ≤ line.at) × (is_last line ≡ true))

past : (at n : ℕ) (too : Bool) → (at < n) ⊎ ((at ≤ n) × (too ≡ true)) → is_past at (Some n) too ≡ true
past at n too (inl less) = rw (lt-ltb at n less) refl
past at n too (inr both) = go (nat_lt at n) refl
  where
    go : (b : Bool) → nat_lt at n ≡ b → (nat_lt at n || (n == at && too)) ≡ true
    go true e = rw e refl
    go false e =
        let same : (n == at) ≡ true = eq-eqb n at (omega (arith, both.0, ltb-false at n e)) in
        rw (e, same, both.1) refl

told_behind : (at : ℕ) (line : Line) (d : Data) → Behind at line → Says line d → passes_step at (Told d) ≡ true
told_behind at line d behind says =
    let too : (is_stop d || is_end d) ≡ is_last line = ap (λ (b : Bool). b || is_end d) (told_stop line d says) ∙ ap (λ (b : Bool). is_some line.stopped || b) (told_end line d says) in
    ap (λ (n : Option ℕ). is_past at n (is_stop d || is_end d)) (told_at line d says) ∙ ap (is_past at (Some line.at)) too ∙ past at line.at (is_last line) behind

behind_passes : (at : ℕ) (line : Line) (port : PortLine) → Behind at line → SaysLine line port → passes_step at port ≡ true
behind_passes at line (Told d) behind says = told_behind at line d behind says
behind_passes at line (OtherForm bytes) behind says = absurd says
behind_passes at line NoText behind says = absurd says
behind_passes at line Nothing behind says = absurd says

-- its own line is not passed over
own_told : (line : Line) (d : Data) → is_last line ≡ false → Says line d → passes_step line.at (Told d) ≡ false
own_told line d last says =
    let too : (is_stop d || is_end d) ≡ false = ap (λ (b : Bool). b || is_end d) (told_stop line d says) ∙ ap (λ (b : Bool). is_some line.stopped || b) (told_end line d says) ∙ last in
    let here : nat_lt line.at line.at ≡ false = le-ltb line.at line.at (omega arith) in
    ap (λ (n : Option ℕ). is_past line.at n (is_stop d || is_end d)) (told_at line d says) ∙ ap (is_past line.at (Some line.at)) too ∙ rw here (never (line.at == line.at))

own_kept : (line : Line) (port : PortLine) → is_last line ≡ false → SaysLine line port → passes_step line.at port ≡ false
own_kept line (Told d) last says = own_told line d last says
own_kept line (OtherForm bytes) last says = absurd says
own_kept line NoText last says = absurd says
own_kept line Nothing last says = absurd says

-- where a run ends
stop_kept : (at : ℕ) (i : Instr) (r : Refusal) (port : PortLine) → SaysLine (stop_line at i r) port → passes_stop at port ≡ false
stop_kept at i r (Told d) says = rw (told_at (stop_line at i r) d says, told_end (stop_line at i r) d says) (never (at == at))
stop_kept at i r (OtherForm bytes) says = absurd says
stop_kept at i r NoText says = absurd says
stop_kept at i r Nothing says = absurd says

end_passes : (at : ℕ) (quiet : Bool) (port : PortLine) → SaysLine (end_line at quiet) port → passes_stop at port ≡ true
end_passes at quiet (Told d) says = rw (told_at (end_line at quiet) d says, told_end (end_line at quiet) d says, eq-eqb at at refl) refl
end_passes at quiet (OtherForm bytes) says = absurd says
end_passes at quiet NoText says = absurd says
end_passes at quiet Nothing says = absurd says

-- ---- one line that is due

-- it is passed over by the first line that is left, or none is left
skipped : (last : ℕ) (due : DueLine) (ahead : List Ahead) (P : Line → Type 0) → ((line : Line) (port : PortLine) → P line → SaysLine line port → passes true due port ≡ true)
    → (lines : List Line) (ports : List PortLine) → AllByRecursion P lines → Say lines ports → over true last (Wanted due ∷ ahead) ports ≡ over true due.line.at ahead ports
skipped last due ahead P pass lines [] all say = nothing_left last (Wanted due ∷ ahead) ∙ sym (nothing_left due.line.at ahead)
skipped last due ahead P pass lines (port ∷ ports) all say =
    over_passes true last due ahead port ports (first_holds P (λ (port : PortLine). passes true due port ≡ true) pass lines port ports all say)

-- it agrees with the first, and so it goes on with the rest
met : (last : ℕ) (due : DueLine) (ahead : List Ahead) (shown : Line) → Shows shown due.line → ((port : PortLine) → SaysLine shown port → passes true due port ≡ false)
    → (lines : List Line) (ports : List PortLine) (o : Outcome) → ((left : List PortLine) → Say lines left → over true due.line.at ahead left ≡ o)
    → Say (shown ∷ lines) ports → over true last (Wanted due ∷ ahead) ports ≡ o
met last due ahead shown shows kept lines [] o on say = absurd say
met last due ahead shown shows kept lines (port ∷ ports) o on say =
    over_agrees true last due ahead port ports (kept port say.0) (says_agrees due shown port shows say.0) ∙ on ports say.1

-- ---- the lines of instructions

step_at : (documents : Bool) (at : ℕ) (i : Instr) (s t : State) → (step_line documents at i s t).at ≡ at
step_at documents at (Edit c op) s t = refl
step_at documents at (Take c) s t = refl
step_at documents at (Deliver c) s t = refl
step_at documents at (Acknowledge c) s t = refl
step_at documents at (Join c) s t = refl
step_at documents at (Read c) s t = refl
step_at documents at ReadServer s t = refl

step_not_last : (documents : Bool) (at : ℕ) (i : Instr) (s t : State) → is_last (step_line documents at i s t) ≡ false
step_not_last documents at (Edit c op) s t = refl
step_not_last documents at (Take c) s t = refl
step_not_last documents at (Deliver c) s t = refl
step_not_last documents at (Acknowledge c) s t = refl
step_not_last documents at (Join c) s t = refl
step_not_last documents at (Read c) s t = refl
step_not_last documents at ReadServer s t = refl

step_kept : (documents : Bool) (at : ℕ) (i : Instr) (s t : State) (port : PortLine) → SaysLine (step_line documents at i s t) port → passes_step at port ≡ false
step_kept documents at i s t port says =
    subst (λ (n : ℕ). passes_step n port ≡ false) (step_at documents at i s t) (own_kept (step_line documents at i s t) port (step_not_last documents at i s t) says)

-- they stand behind the place from which they go on
lines_behind : (documents : Bool) (is : List Instr) (from at : ℕ) (s : State) → from ≤ at → AllByRecursion (Behind from) (lines_from documents at s is)
lines_behind documents [] from at s most = tt
lines_behind documents (i ∷ is) from at s most = go (λ t. lines_behind documents is from (suc at) t (omega (arith, most))) (step s i)
  where
    first : (t : State) → Behind from (step_line documents (suc at) i s t)
    first t = inl (let there = step_at documents (suc at) i s t in omega (arith, there, most))

    go : ((t : State) → AllByRecursion (Behind from) (lines_from documents (suc at) t is)) → (out : Stepped)
        → AllByRecursion (Behind from) (elim out [ Performed t list ↦ step_line documents (suc at) i s t ∷ lines_from documents (suc at) t is | Refused r ↦ [] | NoRow ↦ [] ])
    go others (Performed t list) = (first t, others t)
    go others (Refused r) = tt
    go others NoRow = tt

-- lines of where a run ends
abbrev Last : ℕ → Line → Type 0
Last end line = (end ≤ line.at) × (is_last line ≡ true)

last_behind : (from end : ℕ) → from ≤ end → (line : Line) → Last end line → Behind from line
last_behind from end most line last = inr (omega (arith, most, last.0), last.1)

-- what comes of chosen lines, by whether one is of where the run ends
abbrev judged : Option (ℕ × Refusal) → Bool → Outcome
judged stopped last = if last then outcome_at stopped else Conforms

-- from any place on
steps_agree : (documents : Bool) (is : List Instr) (n at end : ℕ) (p q : Place) (tail : List Line) (which : List Bool) (ports : List PortLine) (stopped : Option (ℕ × Refusal))
    → n ≤ length is → end ≡ at + n → run (take n is) p ≡ Some q → AllByRecursion (Last end) tail
    → ((which : List Bool) (left : List PortLine) → Say (chosen which tail) left → over true end (ahead_from end q.state (drop n is)) left ≡ judged stopped (has_last (chosen which tail)))
    → Say (chosen which (lines_from documents at p.state (take n is) ++ tail)) ports
    → over true at (ahead_from at p.state is) ports ≡ judged stopped (has_last (chosen which (lines_from documents at p.state (take n is) ++ tail)))
steps_agree documents is zero at end p q tail which ports stopped few so here last on say =
    let same : p ≡ q = same_Some p q here in
    let place : at ≡ end = omega (arith, so) in
    ap (λ (e : ℕ). over true e (ahead_from e p.state is) ports) place ∙ ap (λ (r : Place). over true end (ahead_from end r.state is) ports) same ∙ on which ports say
steps_agree documents [] (suc n) at end p q tail which ports stopped few so here last on say = absurd (omega (arith, few))
steps_agree documents (i ∷ is) (suc n) at end p q tail which ports stopped few so here last on say =
    go
    (λ t list after bs left. steps_agree documents is n (suc at) end (record { state = t; shown = with_shown p.shown list }) q tail bs left stopped (omega (arith, few)) (omega (arith, so)) after last on)
    (step p.state i) here which say
  where
    all_behind : (t : State) → AllByRecursion (Behind (suc at)) (lines_from documents (suc at) t (take n is) ++ tail)
    all_behind t =
        all_both (Behind (suc at)) (lines_from documents (suc at) t (take n is)) tail (lines_behind documents (take n is) (suc at) (suc at) t (omega arith))
        (all_from (Last end) (Behind (suc at)) (last_behind (suc at) end (omega (arith, so))) tail last)

    -- by whether the line of this instruction is chosen
    by : (t : State) → ((bs : List Bool) (left : List PortLine) → Say (chosen bs (lines_from documents (suc at) t (take n is) ++ tail)) left → over true (suc at) (ahead_from (suc at) t is) left ≡ judged stopped (has_last (chosen bs (lines_from documents (suc at) t (take n is) ++ tail))))
        → (bs : List Bool) → Say (chosen bs (step_line documents (suc at) i p.state t ∷ (lines_from documents (suc at) t (take n is) ++ tail))) ports
        → over true at (Wanted (step_due (suc at) i (sends i p.state) (applies i p.state) (receives i p.state) t) ∷ ahead_from (suc at) t is) ports ≡ judged stopped (has_last (chosen bs (step_line documents (suc at) i p.state t ∷ (lines_from documents (suc at) t (take n is) ++ tail))))
    by t next [] say = skipped at (step_due (suc at) i (sends i p.state) (applies i p.state) (receives i p.state) t) (ahead_from (suc at) t is) (λ line. ⊥) (λ line port none says. absurd none) [] ports tt say ∙ next [] ports say
    by t next (false ∷ bs) say =
        skipped at (step_due (suc at) i (sends i p.state) (applies i p.state) (receives i p.state) t) (ahead_from (suc at) t is) (Behind (suc at)) (behind_passes (suc at)) (chosen bs (lines_from documents (suc at) t (take n is) ++ tail)) ports (chosen_all (Behind (suc at)) bs (lines_from documents (suc at) t (take n is) ++ tail) (all_behind t)) say
        ∙ next bs ports say
    by t next (true ∷ bs) say =
        met at (step_due (suc at) i (sends i p.state) (applies i p.state) (receives i p.state) t) (ahead_from (suc at) t is) (step_line documents (suc at) i p.state t) (step_shown documents (suc at) i p.state t) (step_kept documents (suc at) i p.state t)
        (chosen bs (lines_from documents (suc at) t (take n is) ++ tail)) ports (judged stopped (has_last (chosen bs (lines_from documents (suc at) t (take n is) ++ tail)))) (next bs) say
        ∙ ap (λ (b : Bool). judged stopped (b || has_last (chosen bs (lines_from documents (suc at) t (take n is) ++ tail)))) (sym (step_not_last documents (suc at) i p.state t))

    go : ((t : State) (list : Option Shown) → run (take n is) (record { state = t; shown = with_shown p.shown list }) ≡ Some q → (bs : List Bool) (left : List PortLine)
        → Say (chosen bs (lines_from documents (suc at) t (take n is) ++ tail)) left → over true (suc at) (ahead_from (suc at) t is) left ≡ judged stopped (has_last (chosen bs (lines_from documents (suc at) t (take n is) ++ tail))))
        → (out : Stepped)
        → (elim out [ Performed t list ↦ run (take n is) (record { state = t; shown = with_shown p.shown list }) | Refused r ↦ None | NoRow ↦ None ]) ≡ Some q
        → (bs : List Bool)
        → Say (chosen bs ((elim out [ Performed t list ↦ step_line documents (suc at) i p.state t ∷ lines_from documents (suc at) t (take n is) | Refused r ↦ [] | NoRow ↦ [] ]) ++ tail)) ports
        → over true at (elim out [ Performed t list ↦ Wanted (step_due (suc at) i (sends i p.state) (applies i p.state) (receives i p.state) t) ∷ ahead_from (suc at) t is | Refused r ↦ stopping at p.state i r | NoRow ↦ [] ]) ports
        ≡ judged stopped (has_last (chosen bs ((elim out [ Performed t list ↦ step_line documents (suc at) i p.state t ∷ lines_from documents (suc at) t (take n is) | Refused r ↦ [] | NoRow ↦ [] ]) ++ tail)))
    go next (Performed t list) here bs say = by t (next t list here) bs say
    go next (Refused r) here bs say = absurd (cc)
    go next NoRow here bs say = absurd (cc)

-- ---- where a run ends

end_agrees : (last at : ℕ) (s : State) (which : List Bool) (ports : List PortLine) → Say (chosen which (end_line at (is_quiet s) ∷ [])) ports → over true last (ending at s) ports ≡ Conforms
end_agrees last at s [] [] say = refl
end_agrees last at s [] (port ∷ ports) say = absurd say
end_agrees last at s (false ∷ which) ports say = go ports (subst (λ (ls : List Line). Say ls ports) (none_chosen which) say)
  where
    go : (ports : List PortLine) → Say [] ports → over true last (ending at s) ports ≡ Conforms
    go [] say = refl
    go (port ∷ ports) say = absurd say
end_agrees last at s (true ∷ which) ports say =
    met last (end_due at (is_quiet s)) [] (end_line at (is_quiet s)) (all_shown (end_line at (is_quiet s))) (λ port says. never true) (chosen which []) ports Conforms
    (λ left others. none_left left (subst (λ (ls : List Line). Say ls left) (none_chosen which) others)) say
  where
    none_left : (left : List PortLine) → Say [] left → over true at [] left ≡ Conforms
    none_left [] say = refl
    none_left (port ∷ left) say = absurd say

-- a refusal of ot.js
stop_agrees_at : (at : ℕ) (s : State) (i : Instr) (r : Refusal) (which : List Bool) (ports : List PortLine) → Say (chosen which (stop_line at i r ∷ end_line at (is_quiet s) ∷ [])) ports
    → over true at (Wanted (stop_due at i r) ∷ ending at s) ports ≡ Conforms
stop_agrees_at at s i r [] [] say = refl
stop_agrees_at at s i r [] (port ∷ ports) say = absurd say
stop_agrees_at at s i r (false ∷ which) ports say =
    skipped at (stop_due at i r) (ending at s) (λ line. line ≡ end_line at (is_quiet s)) (λ line port is says. end_passes at (is_quiet s) port (subst (λ (l : Line). SaysLine l port) is says))
    (chosen which (end_line at (is_quiet s) ∷ [])) ports (chosen_all (λ line. line ≡ end_line at (is_quiet s)) which (end_line at (is_quiet s) ∷ []) (refl, tt)) say
    ∙ end_agrees at at s which ports say
stop_agrees_at at s i r (true ∷ which) ports say =
    met at (stop_due at i r) (ending at s) (stop_line at i r) (all_shown (stop_line at i r)) (stop_kept at i r) (chosen which (end_line at (is_quiet s) ∷ [])) ports Conforms
    (λ left others. end_agrees at at s which left others) say

-- a limit of the bench
limit_at : (at : ℕ) (r : Refusal) (lines : List Line) (ports : List PortLine) → AllByRecursion (Last at) lines → Say lines ports → over true at (Limit at r ∷ []) ports ≡ (if has_last lines then Stopped at r else Conforms)
limit_at at r [] [] all say = refl
limit_at at r [] (port ∷ ports) all say = absurd say
limit_at at r (line ∷ lines) [] all say = absurd say
limit_at at r (line ∷ lines) (port ∷ ports) all say = let last : is_last line ≡ true = all.0.1 in rw last refl

same_either : (b : Bool) → Conforms ≡ (if b then Conforms else Conforms)
same_either true = refl
same_either false = refl

refusal_at : (at : ℕ) (s : State) (i : Instr) (r : Refusal) (which : List Bool) (ports : List PortLine) (limit : Bool) → is_limit r ≡ limit
    → Say (chosen which (stop_line at i r ∷ end_line at (is_quiet s) ∷ [])) ports
    → over true at (stopping at s i r) ports ≡ judged (Some (at, r)) (has_last (chosen which (stop_line at i r ∷ end_line at (is_quiet s) ∷ [])))
refusal_at at s i r which ports true limit say =
    let lines : List Line = stop_line at i r ∷ end_line at (is_quiet s) ∷ [] in
    let all : AllByRecursion (Last at) lines = ((omega arith, refl), ((omega arith, refl), tt)) in
    rw limit (limit_at at r (chosen which lines) ports (chosen_all (Last at) which lines all) say)
refusal_at at s i r which ports false limit say =
    ap (λ (ahead : List Ahead). over true at ahead ports) (goes_on at s i r limit) ∙ stop_agrees_at at s i r which ports say
    ∙ rw limit (same_either (has_last (chosen which (stop_line at i r ∷ end_line at (is_quiet s) ∷ []))))

last_agree : (s : Program) (state : State) (stopped : Option (ℕ × Refusal)) (which : List Bool) (ports : List PortLine) → IsStop s state stopped → IsOfTable stopped → Say (chosen which (last_lines s state stopped)) ports
    → over true (reached s stopped) (ahead_from (reached s stopped) state (drop (reached s stopped) s.instrs)) ports ≡ judged stopped (has_last (chosen which (last_lines s state stopped)))
last_agree s state None which ports stop table say =
    let end : ℕ = length s.instrs in
    ap (λ (ahead : List Ahead). over true end ahead ports) (ahead_past end state s.instrs (omega arith)) ∙ end_agrees end end state which ports say
    ∙ same_either (has_last (chosen which (last_lines s state None)))
last_agree s state (Some stop) which ports is table say =
    let refused = refused_by_table s state stop.0 stop.1 table is in
    let lines : List Line → List Line = λ (ls : List Line). chosen which (ls ++ end_line stop.0 (is_quiet state) ∷ []) in
    let at : stop_at stop.0 stop.1 (Some refused.0) ≡ stop_at stop.0 stop.1 (slice_get s.instrs stop.0) = ap (stop_at stop.0 stop.1) (sym refused.1) in
    let two : Say (lines (stop_line stop.0 refused.0 stop.1 ∷ [])) ports = subst (λ (ls : List Line). Say (lines ls) ports) (sym at) say in
    ap (λ (ahead : List Ahead). over true stop.0 ahead ports) (ahead_refused stop.0 state refused.0 s.instrs stop.1 refused.1 refused.2)
    ∙ refusal_at stop.0 state refused.0 stop.1 which ports (is_limit stop.1) refl two
    ∙ ap (λ (ls : List Line). judged (Some (stop.0, stop.1)) (has_last (lines ls))) at

-- each of them is of where the run ends
lasts : (s : Program) (state : State) (stopped : Option (ℕ × Refusal)) → AllByRecursion (Last (reached s stopped)) (last_lines s state stopped)
lasts s state None = ((omega arith, refl), tt)
lasts s state (Some stop) = go (slice_get s.instrs stop.0)
  where
    go : (o : Option Instr) → AllByRecursion (Last stop.0) (stop_at stop.0 stop.1 o ++ end_line stop.0 (is_quiet state) ∷ [])
    go None = ((omega arith, refl), tt)
    go (Some i) = ((omega arith, refl), ((omega arith, refl), tt))

-- ---- the opening's line

not_zero : (n : ℕ) → 0 < n → (n == 0) ≡ false
not_zero n less = ne_eqb n 0 (λ e. omega (arith, less, e))

-- a line that says `stopped` or `end` is none
told_no_opening : (d : Data) → (is_stop d ≡ true) ⊎ (is_end d ≡ true) → is_opening_line (Told d) ≡ false
told_no_opening d (inl stops) = rw stops (no_zero (is_zero (number_at (codes "at") d)) (is_told (get (codes "do") d)))
  where
    no_zero : (a b : Bool) → (a && (not b && false)) ≡ false
    no_zero true true = refl
    no_zero true false = refl
    no_zero false b = refl
told_no_opening d (inr ends) = rw ends (no_end (is_zero (number_at (codes "at") d)) (is_told (get (codes "do") d)) (is_stop d))
  where
    no_end : (a b c : Bool) → (a && (not b && (not c && false))) ≡ false
    no_end true true c = refl
    no_end true false true = refl
    no_end true false false = refl
    no_end false b c = refl

-- so a line behind it is none
told_later : (line : Line) (d : Data) → Behind 0 line → Says line d → is_opening_line (Told d) ≡ false
told_later line d (inl less) says =
    let later : (line.at == 0) ≡ false = not_zero line.at less in
    let at : get (codes "at") d ≡ Some (number (unsigned line.at)) = says.under key.At in
    rw (at, later) refl
told_later line d (inr last) says =
    go (is_some line.stopped) (is_some line.quiet) (told_stop line d says) (told_end line d says) last.1
  where
    go : (b e : Bool) → is_stop d ≡ b → is_end d ≡ e → (b || e) ≡ true → is_opening_line (Told d) ≡ false
    go true e stops ends both = told_no_opening d (inl stops)
    go false true stops ends both = told_no_opening d (inr ends)
    go false false stops ends both = absurd (cc)

later_no_opening : (line : Line) (port : PortLine) → Behind 0 line → SaysLine line port → is_opening_line port ≡ false
later_no_opening line (Told d) behind says = told_later line d behind says
later_no_opening line (OtherForm bytes) behind says = absurd says
later_no_opening line NoText behind says = absurd says
later_no_opening line Nothing behind says = absurd says

unopened : (opening : DueLine) (ahead : List Ahead) (lines : List Line) (ports : List PortLine) → AllByRecursion (Behind 0) lines → Say lines ports → from_opening true opening ahead ports ≡ over true 0 ahead ports
unopened opening ahead lines [] all say = refl
unopened opening ahead lines (port ∷ ports) all say =
    let off : is_opening_line port ≡ false = first_holds (Behind 0) (λ (port : PortLine). is_opening_line port ≡ false) later_no_opening lines port ports all say in
    rw off refl

opened : (s : Program) (ahead : List Ahead) (lines : List Line) (ports : List PortLine) (o : Outcome) → ((left : List PortLine) → Say lines left → over true 0 ahead left ≡ o)
    → Say (opening_line s ∷ lines) ports → from_opening true (opening_due s) ahead ports ≡ o
opened s ahead lines [] o on say = absurd say
opened s ahead lines (port ∷ ports) o on say =
    let on_it : is_opening_line port ≡ true = is_the_opening s port say.0 in
    rw on_it (met 0 (opening_due s) ahead (opening_line s) (all_shown (opening_line s)) (λ port says. never true) lines (port ∷ ports) o on say)

-- ---- all lines

run_agrees : (documents : Bool) (s : Program) (stopped : Option (ℕ × Refusal)) (place : Place) (which : List Bool) (ports : List PortLine) → place_at s (reached s stopped) ≡ Some place → IsStop s place.state stopped
    → IsOfTable stopped → Say (chosen which (run_lines documents s place.state stopped)) ports
    → outcome true s ports ≡ outcome_of_chosen stopped (chosen which (run_lines documents s place.state stopped))
run_agrees documents s stopped place which ports at stop table say = by which say
  where
    all_behind : AllByRecursion (Behind 0) (lines_from documents 0 (opening_of s) (take (reached s stopped) s.instrs) ++ last_lines s place.state stopped)
    all_behind =
        all_both (Behind 0) (lines_from documents 0 (opening_of s) (take (reached s stopped) s.instrs)) (last_lines s place.state stopped) (lines_behind documents (take (reached s stopped) s.instrs) 0 0 (opening_of s) (omega arith))
        (all_from (Last (reached s stopped)) (Behind 0) (last_behind 0 (reached s stopped) (omega arith)) (last_lines s place.state stopped) (lasts s place.state stopped))

    rest : (bs : List Bool) (left : List PortLine) → Say (chosen bs (lines_from documents 0 (opening_of s) (take (reached s stopped) s.instrs) ++ last_lines s place.state stopped)) left → over true 0 (ahead_from 0 (opening_of s) s.instrs) left ≡ judged stopped (has_last (chosen bs (lines_from documents 0 (opening_of s) (take (reached s stopped) s.instrs) ++ last_lines s place.state stopped)))
    rest bs left others =
        steps_agree documents s.instrs (reached s stopped) 0 (reached s stopped) (begin s.clients s.present s.start) place (last_lines s place.state stopped) bs left stopped (reached_within s place.state stopped stop) (omega arith) at
        (lasts s place.state stopped) (λ which more say. last_agree s place.state stopped which more stop table say) others

    by : (bs : List Bool) → Say (chosen bs (opening_line s ∷ (lines_from documents 0 (opening_of s) (take (reached s stopped) s.instrs) ++ last_lines s place.state stopped))) ports → outcome true s ports ≡ judged stopped (has_last (chosen bs (opening_line s ∷ (lines_from documents 0 (opening_of s) (take (reached s stopped) s.instrs) ++ last_lines s place.state stopped))))
    by [] say = unopened (opening_due s) (ahead_from 0 (opening_of s) s.instrs) [] ports tt say ∙ rest [] ports say
    by (false ∷ bs) say =
        unopened (opening_due s) (ahead_from 0 (opening_of s) s.instrs) (chosen bs (lines_from documents 0 (opening_of s) (take (reached s stopped) s.instrs) ++ last_lines s place.state stopped)) ports (chosen_all (Behind 0) bs (lines_from documents 0 (opening_of s) (take (reached s stopped) s.instrs) ++ last_lines s place.state stopped) all_behind) say ∙ rest bs ports say
    by (true ∷ bs) say = opened s (ahead_from 0 (opening_of s) s.instrs) (chosen bs (lines_from documents 0 (opening_of s) (take (reached s stopped) s.instrs) ++ last_lines s place.state stopped)) ports (judged stopped (has_last (chosen bs (lines_from documents 0 (opening_of s) (take (reached s stopped) s.instrs) ++ last_lines s place.state stopped)))) (rest bs) say

pub chosen_steps_conform : ChosenStepsConform
chosen_steps_conform documents s stopped lines which ports are table say =
    subst (λ (ls : List Line). outcome true s ports ≡ outcome_of_chosen stopped (chosen which ls)) (sym are.are)
    (run_agrees documents s stopped are.place which ports are.at are.stop table (subst (λ (ls : List Line). Say (chosen which ls) ports) are.are say))

-- What the lines of every run give.
use Rattle.std.specs.Prelude.{◌≡◌, ℕ, suc, ◌≤◌, take, List, map, slice_get, Bool, Option, Some}
use Rattle.ot_isa.specs.Program.{Program}
use Rattle.ot_model.specs.declared.shown.Refusal.{Refusal}
use Rattle.ot_model.specs.Table.{Client, Place, State}
use Rattle.ot_model.specs.Table as table
use Rattle.ot_model.specs.Runs.{place_at}
use Rattle.ot_machine.specs.Ended.{reached}
use Rattle.ot_steps.specs.Lines.{Line}
use Rattle.ot_steps.specs.Steps.{first_lines}
use Rattle.ot_steps.specs.Written.{AreRunLines}
use Rattle.ot_steps.specs.Fold.{client_text, downlink, head_text, session_in, session_of}
use Rattle.ot_steps.specs.Found.{counts, counts_in}

-- the opening and the lines of the first p instructions fold to the state after them
abbrev pub FoldIsRun : Type 0
FoldIsRun =
    (documents : Bool) (s : Program) (p : ℕ) (q : Place) → place_at s p ≡ Some q → session_of (first_lines documents s p) ≡ session_in q.state

-- of the lines of a run, the opening and the p lines behind it fold to the state after p instructions
abbrev pub LinesFold : Type 0
LinesFold =
    (documents : Bool) (s : Program) (stopped : Option (ℕ × Refusal)) (lines : List Line) → AreRunLines documents s stopped lines
    → (p : ℕ) (q : Place) → p ≤ reached s stopped → place_at s p ≡ Some q → session_of (take (suc p) lines) ≡ session_in q.state

-- and all of them to the state where it ends
abbrev pub AllLinesFold : Type 0
AllLinesFold =
    (documents : Bool) (s : Program) (stopped : Option (ℕ × Refusal)) (lines : List Line)
    → (are : AreRunLines documents s stopped lines) → session_of lines ≡ session_in are.place.state

-- a text stands in each document of the lines as often as in the table's, at every place: so between two places the same documents gain or lose it
abbrev pub FoundByLines : Type 0
FoundByLines =
    (documents : Bool) (s : Program) (stopped : Option (ℕ × Refusal)) (lines : List Line) → AreRunLines documents s stopped lines
    → (p : ℕ) (q : Place) → p ≤ reached s stopped → place_at s p ≡ Some q
    → (text : List ℕ) → counts text (session_of (take (suc p) lines)) ≡ counts_in text q.state

-- what stands on the way to a client follows: it is the log from the client's revision on
abbrev pub DownlinksFollow : Type 0
DownlinksFollow =
    (s : State) (c : ℕ) (x : Client) → slice_get s.clients c ≡ Some x
    → downlink (session_in s) c (client_text x) ≡ map head_text (table.downlink s c x)

-- The object that a line is says what the line says.
use Rattle.std.proofs.Common.{◌≡◌, ℕ, List, Option, Some, None, option_map, option_and_then, refl, ap, ◌∙◌}
use Rattle.std.specs.Prelude.{codes}
use Rattle.serde_json.specs.Find.{get}
use Rattle.ot_steps.specs.Lines.{Line, Message}
use Rattle.ot_steps.specs.Text.{Value, Number, Op, Sent}
use Rattle.ot_conform.specs.Keys.{found_at}
use Rattle.ot_conform.specs.Laws.{Says, data_of}
use Rattle.ot_steps.specs.Text.{value_at}
use Rattle.ot_steps.specs.declared.key.Key.{Key}
use Rattle.ot_steps.specs.declared.key.Key.TheVariants as key
use Rattle.ot_conform.proofs.LineMembers.{got_key, told_alone}
use Rattle.ot_conform.proofs.LineTrees.{line_data}

-- a part of the message
part_of : (part : List ℕ) (line : Line) (value : Message → Value) → ((m : Message) → get part (data_of (Sent m)) ≡ Some (data_of (value m)))
    → option_and_then (get part) (get (codes "sent") (line_data line)) ≡ option_map data_of (option_map value line.sent)
part_of part line value each = ap (option_and_then (get part)) (got_key (codes "sent") line ∙ told_alone (option_map Sent line.sent)) ∙ go line.sent
  where
    go : (o : Option Message) → option_and_then (get part) (option_map data_of (option_map Sent o)) ≡ option_map data_of (option_map value o)
    go None = refl
    go (Some m) = each m

under : (line : Line) (k : Key) → found_at k (line_data line) ≡ option_map data_of (value_at k line)
under line key.At = got_key (codes "at") line
under line key.Clients = got_key (codes "clients") line ∙ told_alone (value_at key.Clients line)
under line key.Present = got_key (codes "present") line ∙ told_alone (value_at key.Present line)
under line key.Start = got_key (codes "start") line ∙ told_alone (value_at key.Start line)
under line key.Do = got_key (codes "do") line ∙ told_alone (value_at key.Do line)
under line key.Client = got_key (codes "client") line ∙ told_alone (value_at key.Client line)
under line key.Edit = got_key (codes "edit") line ∙ told_alone (value_at key.Edit line)
under line key.Stopped = got_key (codes "stopped") line ∙ told_alone (value_at key.Stopped line)
under line key.Revision = got_key (codes "revision") line ∙ told_alone (value_at key.Revision line)
under line key.State = got_key (codes "state") line ∙ told_alone (value_at key.State line)
under line key.Outstanding = got_key (codes "outstanding") line ∙ told_alone (value_at key.Outstanding line)
under line key.Buffer = got_key (codes "buffer") line ∙ told_alone (value_at key.Buffer line)
under line key.Sent = got_key (codes "sent") line ∙ told_alone (value_at key.Sent line)
under line key.SentRevision = part_of (codes "revision") line (λ m. Number m.revision) (λ m. refl)
under line key.SentOperation = part_of (codes "operation") line (λ m. Op m.operation) (λ m. refl)
under line key.Applied = got_key (codes "applied") line ∙ told_alone (value_at key.Applied line)
under line key.Appended = got_key (codes "appended") line ∙ told_alone (value_at key.Appended line)
under line key.Document = got_key (codes "document") line ∙ told_alone (value_at key.Document line)
under line key.End = got_key (codes "end") line ∙ told_alone (value_at key.End line)

pub says : (line : Line) → Says line (line_data line)
says line = record { under = under line; message = got_key (codes "message") line }

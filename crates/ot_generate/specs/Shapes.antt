-- What is asked of a session that is made at random.
use Rattle.std.specs.Prelude.{ℕ, ◌-◌, min, Bool, ◌&&◌, nat_le, List, [], length, Option, Some, None, if◌then◌else◌, unwrap_or, vec_items, option_map, Vec}
use Rattle.std.specs.declared.alloc.Global.{Global}
use Rattle.ot_isa.specs.declared.builder.TheConstants.{CLIENT_LIMIT, INSTR_LIMIT, START_LIMIT}

-- how many clients there are; how many of them are present from the start, if that is asked; how many instructions are made before the
-- reads at the end; the start text, if one is asked; and whether it may end anyhow
pub record ShapeView : Type 0 where
  pub clients : ℕ
  pub present : Option ℕ
  pub instructions : ℕ
  pub start : Option (List ℕ)
  pub is_open : Bool

abbrev pub shape_in : ℕ → Option ℕ → ℕ → Option (Vec ℕ Global) → Bool → ShapeView
shape_in clients present instructions start is_open =
    record { clients = clients; present = present; instructions = instructions; start = option_map vec_items start; is_open = is_open }

-- 1 to 64 clients, no more present ones than clients, at most 100,000 instructions, and a start text of at most 40,000 characters
abbrev pub is_shape : ShapeView → Bool
is_shape shape =
    nat_le 1 shape.clients && (nat_le shape.clients CLIENT_LIMIT && (nat_le (unwrap_or shape.present 0) shape.clients
    && (nat_le shape.instructions INSTR_LIMIT && nat_le (length (unwrap_or shape.start [])) START_LIMIT)))

-- the shape, if it is one
abbrev pub shape_if : ShapeView → Option ShapeView
shape_if shape = if is_shape shape then Some shape else None

-- how many instructions are made before the reads at the end, which find room for all clients and the server
abbrev pub made : ShapeView → ℕ
made shape = if shape.is_open then shape.instructions else min shape.instructions (99999 - shape.clients)

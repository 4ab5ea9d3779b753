-- A client on its way through what is on its way to it, beside the machine.
use Rattle.std.specs.Prelude.{◌≡◌, ℕ, List, drop, slice_get, Some}
use Rattle.ot_isa.specs.declared.elements.Tagged.{Tagged}
use Rattle.ot_client.specs.State as client
use Rattle.ot_model.specs.Sound.{IsSound}
use Rattle.ot_model.specs.Table.{Client, State, phase_in}
use Rattle.ot_machine.specs.Effects.{client_in}
use Rattle.ot_verdict.specs.Ending.{list_after, received}

-- client c of the state s, in this one of its states and with this list: it is so in some sound state with the same log, and it goes on to the
-- list that it has once it has received everything
pub record IsReceiving (s : State) (c : ℕ) (now : client.State Tagged) (list : List Tagged) : Type 0 where
  pub state : State
  pub sound : IsSound state
  pub log : state.log ≡ s.log
  pub client : Client
  pub at : slice_get state.clients c ≡ Some client
  pub revision : client.revision ≡ now.revision
  pub phase : client.phase ≡ phase_in now.phase
  pub list_is : client.list ≡ list
  pub ends : list_after c (drop now.revision s.log) (phase_in now.phase) list ≡ received s c (client_in s c)

-- How many codes there are.
use Rattle.std.proofs.Common.{◌≡◌, ◌≤◌, List, [], ◌∷◌, length, sym, ap, ◌∙◌, arith}
use Rattle.std.proofs.lemmas.List.{length-map}
use Rattle.ot_operation.specs.Operation.{Operation}
use Rattle.ot_operation.specs.Run.{IsNormal, normal_runs}
use Rattle.ot_operation.proofs.Normal.{runs_are}
use Rattle.ot_codes.specs.declared.code.Code.{Code}
use Rattle.ot_codes.specs.declared.code.Sum.{Sum}
use Rattle.ot_codes.specs.Codes.{run_of, runs_of, spelled, total_of, AreSound}
use Rattle.ot_codes.proofs.Read.{filled_first}
use Rattle.ot_codes.proofs.Sound.{total_is}

-- none of them is empty
pub count_most : (codes : List Code) → IsNormal (runs_of codes) → length codes ≤ total_of codes
count_most [] normal = omega arith
count_most (code ∷ codes) normal = omega (arith, filled_first code codes normal, count_most codes normal.2)

pub count_small : (codes : List Code) (sum : Sum) → AreSound codes sum → length codes ≤ 2000000
count_small codes sum sound =
    omega (arith, count_most codes sound.normal, total_is 0 codes, sound.base_is, sound.inserted_is, sound.target_is, sound.base_fits, sound.target_fits)

-- they are as many as the runs in normal form
pub count_is : (codes : List Code) (op : Operation (Unit {0})) → IsNormal (runs_of codes) → spelled codes ≡ op → length codes ≡ length (normal_runs op)
count_is codes op normal spells = sym (length-map codes run_of) ∙ ap length (runs_are (runs_of codes) op normal spells)

-- The lines of a plan's faults.
use Rattle.std.specs.Prelude.{ℕ, List, [], ◌∷◌, ◌++◌, codes}
use Rattle.ot_plan.specs.declared.fault.PlanFault.{PlanFault}
use Rattle.ot_plan.specs.declared.fault.PlanFault.TheVariants as kind

abbrev pub fault_line : PlanFault → List ℕ
fault_line kind.NotJson = codes "otbench: NotJson" ++ 10 ∷ []
fault_line kind.BadShape = codes "otbench: BadShape" ++ 10 ∷ []
fault_line kind.BadNumber = codes "otbench: BadNumber" ++ 10 ∷ []
fault_line kind.TooLong = codes "otbench: TooLong" ++ 10 ∷ []
fault_line kind.TooMany = codes "otbench: TooMany" ++ 10 ∷ []
fault_line kind.Memory = codes "otbench: Memory" ++ 10 ∷ []

-- What the definitions see of faults.
use Rattle.std.specs.Prelude.{ℕ}
use Rattle.px_script.specs.Faults.{Refusal, coded}
use Rattle.px_script.specs.Limits.{number_of}
use Rattle.px_script.specs.declared.limits.TheConstants.{NUMBER_OF_NUMBERS as number_of_numbers}
use Rattle.px_causes.specs.declared.line_fault.LineFault.{LineFault}
use Rattle.px_causes.specs.declared.line_fault.LineFault.TheVariants as fault
use Rattle.px_causes.specs.declared.line_fault.PassedLimit.{PassedLimit}
use Rattle.px_causes.specs.declared.line_fault.PassedLimit.TheVariants as passed

abbrev pub limit_number : PassedLimit → ℕ
limit_number (passed.Most limit) = number_of limit
limit_number passed.Bounds = number_of_numbers

-- the refusal for a limit that is passed
abbrev pub limit_refusal : PassedLimit → Refusal
limit_refusal limit = record { code = 8; limit = limit_number limit }

abbrev pub refusal_of : LineFault → Refusal
refusal_of fault.NotText = coded 1
refusal_of fault.BadToken = coded 2
refusal_of fault.UnknownWord = coded 3
refusal_of fault.UnknownName = coded 4
refusal_of fault.Duplicate = coded 5
refusal_of fault.Arity = coded 6
refusal_of fault.Unbound = coded 7
refusal_of (fault.Limit limit) = limit_refusal limit
refusal_of fault.Order = coded 9
refusal_of fault.MissingEnd = coded 10
refusal_of fault.NotBuilt = coded 11
refusal_of fault.BadTable = coded 12

use Rattle.std.proofs.Common.{◌≡◌, ◌++◌, take}
use Rattle.std.specs.Prelude.{string_bytes}
use Rattle.std.specs.List.{flat_map}
use Rattle.px_cert.specs.Certificates.{schema_lines}
use Rattle.px_cert.specs.Lines.{line_bytes}
use Rattle.px_cert.proofs.writing.push_operators.Given as goal

abbrev pub invariant-loop-schema : goal.invariant-loop-schema
invariant-loop-schema l = string_bytes l.text ≡ string_bytes l.initial.text ++ flat_map (λ schema. flat_map line_bytes (schema_lines schema)) (take l.schema-index l.schemas)

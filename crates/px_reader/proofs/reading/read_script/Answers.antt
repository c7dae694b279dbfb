use Rattle.px_reader.proofs.Common.{stage_now}
use Rattle.px_reader.proofs.Outcomes.{of-stage-read, all-scripts, all-faults}
use Rattle.px_reader.proofs.reading.read_script.Goals as goal

pub returns-clause-of_stage : goal.returns-clause-of_stage
returns-clause-of_stage c = of-stage-read stage_now c.args.bytes.now c.read_at.result c.read_at.ensures.script

pub returns-clause-all_scripts : goal.returns-clause-all_scripts
returns-clause-all_scripts c = all-scripts stage_now c.args.bytes.now c.read_at.result c.read_at.ensures.script c.read_at.ensures.refused

pub returns-clause-all_faults : goal.returns-clause-all_faults
returns-clause-all_faults c = all-faults stage_now c.args.bytes.now c.read_at.result c.read_at.ensures.script c.read_at.ensures.refused

use Rattle.px_demo_script.proofs.Law.{demo_is_script}
use Rattle.px_demo_script.proofs.laws.demo_is_script.Goals as goal

pub returns : goal.returns
returns c = demo_is_script

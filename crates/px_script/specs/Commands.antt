-- The commands of a script, by numbers.
-- Names are numbers of results. A goal has its atoms and the number of its variables, a disturbance the turn and whether it stands between
-- sensing and acting, a run its pairs of a parameter and an object, and two executors in one world have the numbers of whoever is next.
-- An edited table has the table that it is made from, how many of its steps may be asked for, and pairs of a step and a place of its adds.
pub use Rattle.px_script.specs.declared.command.Command.{Command}

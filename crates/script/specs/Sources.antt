-- A script as a source.
use Rattle.std.specs.Prelude.{ℕ, List}
use Rattle.stream.specs.Answers.{Answer}
use Rattle.stream.specs.Pipelines.{Pipeline, source}
use Rattle.stream.specs.Views.{plain}
use Rattle.script.specs.declared.script.Script.{Script}
use Rattle.script.specs.Commands.{commands}

-- The answers of a script are those to the commands of the bytes that it has left.
abbrev pub script_answers : Script → List (Answer ℕ)
script_answers s = commands s.left.now

-- It is the source of a pipeline, and its words are seen as they are.
abbrev pub script_pipeline : Pipeline script_answers
script_pipeline = source script_answers plain

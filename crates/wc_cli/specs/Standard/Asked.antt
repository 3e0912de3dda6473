-- What a command line asks for, by the matches of its words: lines that are carried out one after the other.
use Rattle.std.specs.Prelude.{List, [], ◌∷◌, map, length, nat_lt, Bool, Vec, Option, None, option_map}
use Rattle.std.specs.Prelude.{option_and_then, codes, if◌then◌else◌}
use Rattle.std.specs.Global.{Global}
use Rattle.std.specs.Str.{bytes_eq}
use Rattle.clap.specs.Words.{Text, Row, first_of, all_of}
use Rattle.wc_cli.specs.declared.command_line.Ask.{Ask}
use Rattle.wc_cli.specs.declared.command_line.Ask.TheVariants.{Check, Canonical, Hash}
use Rattle.wc_cli.specs.declared.command_line.Line.{Line}
use Rattle.wc_cli.specs.declared.command_line.Line.TheVariants as line
use Rattle.wc_canon.specs.declared.running.Job.{Job}
use Rattle.wc_canon.specs.declared.running.Job.TheVariants as job

-- a line with its paths as texts
pub data Asked : Type 0 where
  Make : Job → Text → Option Text → Asked
  Tell : Ask → Text → Bool → Asked
  Compare : Text → Text → Asked

-- what a line asks for, its paths as texts
abbrev pub asked_by : Line → Asked
asked_by (line.Make job input output) = Make job input.now (option_map (λ s. s.now) output)
asked_by (line.Tell ask input named) = Tell ask input.now named
asked_by (line.Compare a b) = Compare a.now b.now

-- the same of the lines of an answer
abbrev pub asked_in : Option (Vec Line Global) → Option (List Asked)
asked_in answer = option_map (λ v. map asked_by v.items) answer

-- IN, and OUT where it is given
abbrev pub make_of : Job → List Row → Option (List Asked)
make_of job rows = option_map (λ p. Make job p (first_of (codes "OUT") rows) ∷ []) (first_of (codes "IN") rows)

-- a line for each path, named where there are several
abbrev pub told_of : Ask → List Text → List Asked
told_of ask paths = map (λ p. Tell ask p (nat_lt 1 (length paths))) paths

-- each IN, in order
abbrev pub each_of : Ask → List Row → Option (List Asked)
each_of ask rows = option_map (told_of ask) (all_of (codes "IN") rows)

-- A, and then B
abbrev pub compare_of : List Row → Option (List Asked)
compare_of rows =
    option_and_then (λ a. option_map (λ b. Compare a b ∷ []) (first_of (codes "B") rows)) (first_of (codes "A") rows)

-- the lines that a subcommand's name and matches name
abbrev pub asked_at : Text → List Row → Option (List Asked)
asked_at name rows =
    if bytes_eq name (codes "binary") then make_of job.Binary rows
    else (if bytes_eq name (codes "text") then make_of job.Text rows
    else (if bytes_eq name (codes "check") then each_of Check rows
    else (if bytes_eq name (codes "canonical") then each_of Canonical rows
    else (if bytes_eq name (codes "hash") then each_of Hash rows
    else (if bytes_eq name (codes "compare") then compare_of rows
    else None)))))

-- the lines that the matched subcommand names, where there is one
abbrev pub asked_of : Option (Text × List Row) → Option (List Asked)
asked_of found = option_and_then (λ p. asked_at p.0 p.1) found

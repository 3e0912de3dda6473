-- The command line of `wcanon`, as what a parse reads of it.
use Rattle.std.specs.Prelude.{List, [], ◌∷◌, fold, Some, true, codes}
use Rattle.clap.specs.Words.{App, Rule, Shape, Text, new_app, new_rule, with_rule, with_subcommand}
use Rattle.clap.specs.declared.builder.ArgAction.TheVariants.{Set, Append}

-- a path that has to be given
abbrev pub path_rule : Text → Rule
path_rule id = record (new_rule id) { required = true; action = Some Set }

-- paths of which at least one has to be given
abbrev pub paths_rule : Text → Rule
paths_rule id = record (new_rule id) { required = true; action = Some Append }

-- `-o OUT`, `--output OUT`: 111 is the letter
abbrev pub output_rule : Rule
output_rule = record (new_rule (codes "OUT")) { short = Some 111; long = Some (codes "output"); action = Some Set }

-- a subcommand of this name with IN, and OUT where it is wanted: `binary IN`, `text IN`
abbrev pub make_app : Text → App
make_app name = with_rule (with_rule (new_app name) (path_rule (codes "IN"))) output_rule

-- a subcommand of this name with its paths: `check IN..`, `canonical IN..`, `hash IN..`
abbrev pub each_app : Text → App
each_app name = with_rule (new_app name) (paths_rule (codes "IN"))

-- `compare A B`
abbrev pub compare_app : App
compare_app = with_rule (with_rule (new_app (codes "compare")) (path_rule (codes "A"))) (path_rule (codes "B"))

-- the program without its subcommands: it has a version
abbrev pub top_app : App
top_app =
    let a = new_app (codes "wcanon") in
    record { top = record a.top { has_version = true; subcommand_required = true }; subs = a.subs }

-- the subcommands
abbrev pub subcommands : List Shape
subcommands =
    (make_app (codes "binary")).top ∷ (make_app (codes "text")).top ∷ (each_app (codes "check")).top
    ∷ (each_app (codes "canonical")).top ∷ (each_app (codes "hash")).top ∷ compare_app.top ∷ []

-- the whole command line
abbrev pub program : App
program = fold with_subcommand top_app subcommands

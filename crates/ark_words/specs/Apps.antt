-- The commands as `clap` sees them: their options and arguments.
use Rattle.std.specs.Prelude.{true, Some, codes}
use Rattle.clap.specs.Words.{App, Rule, new_app, new_rule, with_rule}
use Rattle.clap.specs.declared.builder.ArgAction.TheVariants.{Set}
use Rattle.ark_words.specs.Sorted.{Text}

-- a plain word that is wanted
abbrev pub wanted : Text → Rule
wanted id = record (new_rule id) { required = true; action = Some Set }

-- `--new`, with a value
abbrev pub new_option : Rule
new_option = record (new_rule (codes "new")) { long = Some (codes "new"); action = Some Set }

-- a command of which the words after its name are read, with no help and no version
abbrev pub bare : Text → App
bare name = let a = new_app name in
    record a { top = record a.top { no_binary_name = true; disable_help_flag = true; disable_version_flag = true } }

abbrev pub run_app : App
run_app = with_rule (with_rule (bare (codes "run")) new_option) (wanted (codes "device"))

abbrev pub check_app : App
check_app = with_rule (bare (codes "check")) (wanted (codes "device"))

abbrev pub work_app : App
work_app = with_rule (with_rule (with_rule (bare (codes "work")) (wanted (codes "seed"))) (wanted (codes "lines"))) (wanted (codes "device"))

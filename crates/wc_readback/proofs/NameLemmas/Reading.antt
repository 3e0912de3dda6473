-- The printed text of a module is a text of it.
use Rattle.std.proofs.Common.{◌≡◌, ◌≤◌, [], length}
use Rattle.wc_ast.specs.declared.module.Module.{Module}
use Rattle.wc_check.specs.Standard.Broken.{broken}
use Rattle.wc_tokens.specs.Standard.Lexemes.{longest}
use Rattle.wc_print.specs.Standard.Layout.{layout}
use Rattle.wc_print.specs.Standard.Printable.{IsPrintable}
use Rattle.wc_print.specs.Standard.Printed.{text, lexemes}
use Rattle.wc_print.proofs.Reading.Lexing.{Lexes-text}
use Rattle.wc_readback.specs.Grammar.Fitting.{Fits}
use Rattle.wc_readback.specs.Fields.Surface.{text_fields}
use Rattle.wc_readback.proofs.FieldLemmas.Syntax.{syntax-of}
use Rattle.wc_readback.specs.Names.Known.{HasFewLocals}
use Rattle.wc_read_text.specs.Standard.Texts.{Txt}
use Rattle.wc_read_text.proofs.Stages.{text-read}
use Rattle.wc_readback.proofs.NameLemmas.Counting.{signs-few, bodies-few}
use Rattle.wc_readback.proofs.NameLemmas.Checked.{names-known}
use Rattle.wc_readback.proofs.NameLemmas.Naming.{named}

pub text-of : (m : Module) → Fits m → HasFewLocals m → broken m ≡ [] → IsPrintable (layout m)
    → length (text (layout m)) ≤ longest → Txt (text (layout m)) m
text-of m fits locals rules printable short =
    text-read (text (layout m)) (text_fields m) m
    (named m (names-known m rules locals (bodies-few m (signs-few m printable short))))
    (record {
      tokens = lexemes (layout m);
      lexes = Lexes-text (layout m) printable short;
      says = syntax-of m fits printable short;
    })

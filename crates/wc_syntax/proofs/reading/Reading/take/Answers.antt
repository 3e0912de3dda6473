use Rattle.wc_syntax.proofs.Parser.Parses.{refused-by, taken-by}
use Rattle.wc_syntax.proofs.reading.Reading.take.Goals as goal

pub returns-in_default-clause-refused : goal.returns-in_default-clause-refused
returns-in_default-clause-refused c limit ks es r e more =
    refused-by limit ks es _ _ c.args.kind more _ _ _ c.args.at r c.self.view_is c.is_deep-deep.ensures c.step.ensures
    c.in_default.is c.reason_of-why.ensures e

pub returns-clause-kept : goal.returns-clause-kept
returns-clause-kept c limit ks es r e =
    taken-by limit ks es _ _ _ c.args.kind _ _ c.in-Some.action c.args.at r c.self.view_is c.is_deep-deep.ensures
    c.step.ensures c.in-Some.is c.in_ok-go.ensures.ok e

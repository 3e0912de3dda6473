use Rattle.wc_body.specs.Standard.Entries.{mark}
use Rattle.wc_body.proofs.Drafts.BuilderLemmas.{kept-where}
use Rattle.wc_body.proofs.builder.BodyBuilder.push.Goals as goal

pub returns-clause-kept : goal.returns-clause-kept
returns-clause-kept c = kept-where c.put.result c.args.self.now c.put.new.self
    (mark c.args.entry) c.put.ensures.ok c.put.ensures.mark.1

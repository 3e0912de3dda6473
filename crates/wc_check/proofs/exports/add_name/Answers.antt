use Rattle.wc_check.proofs.Lists.NameLemmas.{has_text-insert_key}
use Rattle.wc_check.proofs.exports.add_name.Goals as goal

pub returns-in-Ok-clause-names : goal.returns-in-Ok-clause-names
returns-in-Ok-clause-names c =
    λ q. has_text-insert_key c.args.names.now.keys c.insert.new.self.keys c.args.name c.in-Ok.ensures.keys q

use Rattle.nb_index.specs.Keys.{is_name}
use Rattle.nb_index.proofs.NumberedKeys.{number_from}
use Rattle.nb_index.proofs.keys.name_number.Goals as goal

pub returns : goal.returns
returns c =
    number_from (is_name c.args.name.now) c.args.names.now.keys c.get_index_of.result c.len.result c.unwrap_or.result c.unwrap_or.ensures c.get_index_of.ensures.index c.len.ensures.len

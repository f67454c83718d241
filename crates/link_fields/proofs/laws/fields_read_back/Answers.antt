use Rattle.link_fields.specs.Basic.{url}
use Rattle.link_fields.proofs.FieldLaws.{u32_law, truth_law, text_law, url_law, optional_law, flags_law}
use Rattle.link_fields.proofs.OriginLaws.{any_host_law, origin_law}
use Rattle.link_fields.proofs.DataLaws.{data_law}
use Rattle.link_fields.proofs.laws.fields_read_back.Goals as goal

pub returns : goal.returns
returns c = record {
  number = u32_law;
  truth = truth_law;
  text = text_law;
  url = url_law;
  optional_url = optional_law url url_law;
  flags = flags_law;
  host = any_host_law;
  origin = origin_law;
  values = data_law;
}

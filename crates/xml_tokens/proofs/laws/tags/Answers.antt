use Rattle.xml_tokens.proofs.TagSpelling.{spelled-tags}
use Rattle.xml_tokens.proofs.TagReading.{tags-spelled}
use Rattle.xml_tokens.proofs.laws.tags.Goals as goal

pub returns : goal.returns
returns c = record { read = spelled-tags; spelled = tags-spelled }

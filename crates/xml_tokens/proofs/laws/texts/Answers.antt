use Rattle.xml_tokens.proofs.TextSpelling.{spelled-said}
use Rattle.xml_tokens.proofs.TextReading.{texts-spelled}
use Rattle.xml_tokens.proofs.LineSpelling.{spelled-lines, lines-spelled}
use Rattle.xml_tokens.proofs.laws.texts.Goals as goal

pub returns : goal.returns
returns c = record { read = spelled-said; spelled = texts-spelled; read_lines = spelled-lines; spelled_lines = lines-spelled }

use Rattle.xml_tokens.proofs.LexemeSpelling.{lexemes-read}
use Rattle.xml_tokens.proofs.LexemeReading.{lexemes-spelled}
use Rattle.xml_tokens.proofs.ShapeSpelling.{lexemes-cut}
use Rattle.xml_tokens.proofs.laws.spelling.Goals as goal

pub returns : goal.returns
returns c = record { shapes = lexemes-cut; read = lexemes-read; spelled = lexemes-spelled }

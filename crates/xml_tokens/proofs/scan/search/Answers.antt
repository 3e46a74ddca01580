use Rattle.std.proofs.Common.{refl, sym, arith, ◌≢◌, true, false, subst}
use Rattle.std.specs.Prelude.{codes}
use Rattle.xml_tokens.specs.Shape.{form}
use Rattle.xml_tokens.specs.inside.Resume.{IsWordFound}
use Rattle.xml_tokens.specs.declared.form.Form.TheVariants.{Text, Comment, CData, Instruction, Declaration, Tag, Undecided}
use Rattle.xml_tokens.proofs.FormLemmas.{comment-length, cdata-length, instruction-length}
use Rattle.xml_tokens.proofs.ScanLemmas.{within-now, found-text, found-word, found-outside}
use Rattle.xml_tokens.proofs.scan.search.Goals as goal

comment_decided : Comment ≢ Undecided
comment_decided h = cc

cdata_decided : CData ≢ Undecided
cdata_decided h = cc

instruction_decided : Instruction ≢ Undecided
instruction_decided h = cc

declaration_decided : Declaration ≢ Undecided
declaration_decided h = cc

tag_decided : Tag ≢ Undecided
tag_decided h = cc

pub search_text-requires : goal.search_text-requires
search_text-requires c = within-now c.args.scan c.args.ended c.args.bytes.now c.requires (form c.args.bytes.now) refl

pub search_outside-requires : goal.search_outside-requires
search_outside-requires c = within-now c.args.scan c.args.ended c.args.bytes.now c.requires (form c.args.bytes.now) refl

pub search_outside-requires-in-Tag : goal.search_outside-requires-in-Tag
search_outside-requires-in-Tag c = within-now c.args.scan c.args.ended c.args.bytes.now c.requires (form c.args.bytes.now) refl

pub search_word-requires-clause-within : goal.search_word-requires-clause-within
search_word-requires-clause-within c =
    omega (arith, c.max.ensures, within-now c.args.scan c.args.ended c.args.bytes.now c.requires (form c.args.bytes.now) refl, comment-length c.args.bytes.now (sym c.in-Comment.ensures))

pub search_word-requires-in-CData-clause-within : goal.search_word-requires-in-CData-clause-within
search_word-requires-in-CData-clause-within c =
    omega (arith, c.max-in-CData.ensures, within-now c.args.scan c.args.ended c.args.bytes.now c.requires (form c.args.bytes.now) refl, cdata-length c.args.bytes.now (sym c.in-CData.ensures))

pub search_word-requires-in-Instruction-clause-within : goal.search_word-requires-in-Instruction-clause-within
search_word-requires-in-Instruction-clause-within c =
    omega (arith, c.max-in-Instruction.ensures, within-now c.args.scan c.args.ended c.args.bytes.now c.requires (form c.args.bytes.now) refl, instruction-length c.args.bytes.now (sym c.in-Instruction.ensures))

pub returns-in-Text : goal.returns-in-Text
returns-in-Text c = found-text c.args.scan c.args.ended c.args.bytes.now c.requires Text (sym c.in-Text.ensures) refl c.search_text.result c.search_text.ensures

pub returns-in-Comment : goal.returns-in-Comment
returns-in-Comment c =
    found-word c.args.scan c.args.ended c.args.bytes.now c.requires Comment (sym c.in-Comment.ensures) comment_decided (codes "-->") 4 (λ s e b. refl) c.search_word.result
    (subst (λ n. IsWordFound (codes "-->") n c.args.bytes.now c.search_word.result) c.max.ensures c.search_word.ensures)

pub returns-in-CData : goal.returns-in-CData
returns-in-CData c =
    found-word c.args.scan c.args.ended c.args.bytes.now c.requires CData (sym c.in-CData.ensures) cdata_decided (codes "]]>") 9 (λ s e b. refl) c.search_word-in-CData.result
    (subst (λ n. IsWordFound (codes "]]>") n c.args.bytes.now c.search_word-in-CData.result) c.max-in-CData.ensures c.search_word-in-CData.ensures)

pub returns-in-Instruction : goal.returns-in-Instruction
returns-in-Instruction c =
    found-word c.args.scan c.args.ended c.args.bytes.now c.requires Instruction (sym c.in-Instruction.ensures) instruction_decided (codes "?>") 2 (λ s e b. refl) c.search_word-in-Instruction.result
    (subst (λ n. IsWordFound (codes "?>") n c.args.bytes.now c.search_word-in-Instruction.result) c.max-in-Instruction.ensures c.search_word-in-Instruction.ensures)

pub returns-in-Declaration : goal.returns-in-Declaration
returns-in-Declaration c =
    found-outside c.args.scan c.args.ended c.args.bytes.now c.requires Declaration (sym c.in-Declaration.ensures) declaration_decided true (λ s e b. refl) c.search_outside.result c.search_outside.ensures

pub returns-in-Tag : goal.returns-in-Tag
returns-in-Tag c =
    found-outside c.args.scan c.args.ended c.args.bytes.now c.requires Tag (sym c.in-Tag.ensures) tag_decided false (λ s e b. refl) c.search_outside-in-Tag.result c.search_outside-in-Tag.ensures

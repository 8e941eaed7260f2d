-- What a word says, wherever it lies in memory.
use Rattle.a2l_text.specs.Tokens as spec
use Rattle.a2l_text.specs.declared.word.Word.{Word}
use Rattle.a2l_text.specs.declared.word.Word.TheVariants.{Begin, End, Include, Plain, Quoted}

abbrev pub token_of : Word → spec.Token
token_of Begin = spec.begin
token_of End = spec.end
token_of Include = spec.include
token_of (Plain bytes) = spec.plain bytes.now
token_of (Quoted bytes) = spec.quoted bytes.now

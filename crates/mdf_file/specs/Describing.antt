-- What a channel tells that is written of a description.
use Rattle.std.specs.Prelude.{Some, string_bytes, map}
use Rattle.std.specs.Option.{option_map}
use Rattle.mdf_blocks.specs.Told.{ToldChannel, ToldConversion}
use Rattle.mdf_file.specs.declared.new_channel.NewChannel.{NewChannel}
use Rattle.mdf_file.specs.declared.new_conversion.NewConversion.{NewConversion}

abbrev pub told_conversion : NewConversion → ToldConversion
told_conversion c = record {
  kind = c.kind;
  values = c.values.items;
  texts = map (option_map string_bytes) c.texts.items;
}

abbrev pub told_channel : NewChannel → ToldChannel
told_channel c = record {
  name = Some (string_bytes c.name);
  unit = option_map string_bytes c.unit;
  comment = option_map string_bytes c.comment;
  conversion = option_map told_conversion c.conversion;
  kind = c.kind;
  format = c.format;
  bit_offset = c.bit_offset;
  byte_offset = c.byte_offset;
  bit_count = c.bit_count;
  limits = c.limits;
}

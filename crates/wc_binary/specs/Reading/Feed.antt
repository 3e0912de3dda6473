-- What a buffered reader is to contracts.
use Rattle.std.specs.Prelude.{ℕ, ◌-◌, ◌||◌, ◌++◌, List, [], take, drop, Option}
use Rattle.std.specs.Option.{is_some, unwrap_or}
use Rattle.wc_device.specs.Standard.Device.{device_inner, failed_at, has_failed, has_ended, was_asked_again, read_count}
use Rattle.wc_binary.specs.declared.source.feed.Feed.{Feed}
use Rattle.wc_binary.specs.Reading.Source.{Input}

-- the bytes read and not yet taken
abbrev pub pending : {R : Type 0} → Feed R → List ℕ
pending f = drop f.at (take f.end f.buffer)

-- the input that it is: what is pending, and then what the reader tells
abbrev pub feed_input : {R : Type 0} → (R → Option (List ℕ)) → Feed R → Input
feed_input remaining f =
    let rest = remaining (device_inner f.device.now) in
    record {
      place = read_count f.device.now - (f.end - f.at);
      known = is_some rest;
      left = pending f ++ unwrap_or rest [];
      count = read_count f.device.now;
      failed = failed_at f.device.now;
      spent = has_failed f.device.now || has_ended f.device.now;
      asked = was_asked_again f.device.now;
      lender = f.device.ghost_name;
    }

-- Logs that were read and are finished: what they hold stays.
use Rattle.std.specs.Prelude.{◌≡◌, ℕ, List}
use Rattle.gated_log.specs.Log.{payloads_of}
use Rattle.plain_storage.specs.Logs.{IsLogFile}
use Rattle.plain_storage.specs.Stores.{plain_header}
use Rattle.plain_storage.specs.Types.{types_header}

-- the image is a log of the payloads that the file has
pub record IsSameLog (header file image : List ℕ) : Type 0 where
  pub payloads : payloads_of image ≡ payloads_of file
  pub log : IsLogFile header (payloads_of image) image

-- the images are logs of the payloads that the two files have
pub record AreSameLogs (reads : ℕ → List ℕ) (image0 image1 : List ℕ) : Type 0 where
  pub stores : IsSameLog plain_header (reads 0) image0
  pub types : IsSameLog types_header (reads 1) image1

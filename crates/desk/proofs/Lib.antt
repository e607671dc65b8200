pub mod BackByParts
